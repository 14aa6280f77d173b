-- What round r + 1 decides after its walk, from the state after round r: an event that the walk met decides, since it is one of the round's
-- and no lower one is. Without event the rounds pass where no row came, and stand after round r + 1 where one did. Assumes nothing.
use mathlib.Core.Path.{◌≡◌, sym, ◌∙◌}
use mathlib.Core.List.{List}
use Prim.Native.Nat.{ℕ, suc, ◌≤◌, ◌<◌}
use native.Mathlib.Decide.{dec_lt}
use native.Mathlib.Omega.{arith}
use Rattle.std.specs.Prelude.{Option, Some, None, Ok, Err}
use Rattle.hedge.specs.Schema.{Valid}
use Rattle.pieces.specs.Pieces.{most_tags}
use Rattle.template.specs.Order.{IsSound}
use Rattle.schema.specs.Schemas.{schema_of, binoid_of, LoreOf}
use Rattle.trees.specs.Verdict.{Decision, Quiet, Decides, met, passed}
use Rattle.trees.proofs.EventLaws.{no_event_below, no_event}
use Rattle.worktable.specs.Packed.{most_images}
use Rattle.pairs.specs.Books.{book_of}
use Rattle.pairs.specs.declared.Tally.{Tally}
use Rattle.rounds.specs.declared.Event.{Event}
use Rattle.rounds.specs.declared.Event.TheVariants as event
use Rattle.rounds.specs.Checks.{RuleOf, EventOf, NewOf}
use Rattle.rounds.specs.Walking.{Met}
use Rattle.rounds.proofs.ResultLaws.{MismatchOf, InvalidOf, DeepOf, CrowdedOf, Holding}
use Rattle.rounds.proofs.StateLaws.{AfterRound, state_quiet}
use Rattle.rounds.proofs.WalkedLaws.{WalkedOver, stopped_mismatch, went_matched, went_invalid, went_valid, went_deep, went_shallow}
use Rattle.rounds.proofs.WalkedLaws.{went_crowded, went_room, older_tabled, tabled_image, image_tabled, no_more_new, more_new}

abbrev pub DecidesUnder : List ℕ → ℕ → Decision → Type 0
DecidesUnder f = Decides (EventOf f) (NewOf f)

-- the number of an event
abbrev pub event_number : Event → ℕ
event_number event.Mismatch = 1
event_number event.Invalid = 2
event_number event.TooDeep = 3
event_number event.Crowded = 4

module _ (f lore t₀ t t' : List ℕ) (sound : IsSound f) (taught : LoreOf f lore) (r prev n : ℕ)
    (state : AfterRound f lore t₀ t r prev n) where
  quiet : Quiet (EventOf f) (NewOf f) r
  quiet = state_quiet f lore t₀ t r prev n state r (omega arith)

  -- no event of a number below k
  none_below : (k : ℕ) → (1 < k → MismatchOf f (suc r) → ⊥) → (2 < k → InvalidOf f (suc r) → ⊥) → (3 < k → DeepOf f (suc r) → ⊥)
      → (4 < k → CrowdedOf f (suc r) → ⊥) → (j : ℕ) → j < k → EventOf f (suc r) j → ⊥
  none_below = no_event_below (RuleOf f) (binoid_of f) (Valid (schema_of f)) most_tags most_images (suc r)

  module _ (tally : Tally) (walked : WalkedOver f lore (book_of t n) (Some tally) t') where
    matched : MismatchOf f (suc r) → ⊥
    matched = went_matched f lore sound taught t t' n r state.rows quiet tally walked

  -- the event is one of the round's, and no lower one is
  module _ (budget : ℕ) (h : r < budget) where
    next_met : (k : ℕ) → EventOf f (suc r) k → ((j : ℕ) → j < k → EventOf f (suc r) j → ⊥) → DecidesUnder f budget (met (suc r) k)
    next_met k e lowest = (omega arith, omega (arith, h), state.went, e, lowest)

    pub event_decides : (w : Option Tally) (e : Event) → WalkedOver f lore (book_of t n) w t' → Met w (Err e)
        → DecidesUnder f budget (met (suc r) (event_number e))
    event_decides None event.Mismatch walked told =
        next_met 1 (stopped_mismatch f lore sound taught t t' n r state.rows quiet walked)
        (none_below 1 (λ l. absurd (omega (arith, l))) (λ l. absurd (omega (arith, l))) (λ l. absurd (omega (arith, l)))
        (λ l. absurd (omega (arith, l))))
    event_decides None event.Invalid walked told = absurd told
    event_decides None event.TooDeep walked told = absurd told
    event_decides None event.Crowded walked told = absurd told
    event_decides (Some tally) event.Mismatch walked told = absurd told
    event_decides (Some tally) event.Invalid walked invalid =
        next_met 2 (went_invalid f lore sound taught t t' n r state.rows quiet tally walked invalid)
        (none_below 2 (λ l. matched tally walked) (λ l. absurd (omega (arith, l))) (λ l. absurd (omega (arith, l)))
        (λ l. absurd (omega (arith, l))))
    event_decides (Some tally) event.TooDeep walked (valid, deep) =
        next_met 3 (went_deep f lore sound taught t t' n r state.rows quiet tally walked deep)
        (none_below 3 (λ l. matched tally walked) (λ l. went_valid f lore sound taught t t' n r state.rows quiet tally walked valid)
        (λ l. absurd (omega (arith, l))) (λ l. absurd (omega (arith, l))))
    event_decides (Some tally) event.Crowded walked (valid, shallow, crowded) =
        next_met 4 (went_crowded f lore sound taught t t' n r state.rows quiet tally walked crowded)
        (none_below 4 (λ l. matched tally walked) (λ l. went_valid f lore sound taught t t' n r state.rows quiet tally walked valid)
        (λ l. went_shallow f lore sound taught t t' n r state.rows quiet tally walked shallow) (λ l. absurd (omega (arith, l))))

  -- ---- no event

  module _ (tally : Tally) (walked : WalkedOver f lore (book_of t n) (Some tally) t') (m : ℕ) (none : Met (Some tally) (Ok m)) where
    pub next_quiet : Quiet (EventOf f) (NewOf f) (suc r)
    next_quiet =
        let (valid, shallow, room, count) = none in
        no_event (RuleOf f) (binoid_of f) (Valid (schema_of f)) most_tags most_images (suc r) (matched tally walked)
        (went_valid f lore sound taught t t' n r state.rows quiet tally walked valid)
        (went_shallow f lore sound taught t t' n r state.rows quiet tally walked shallow)
        (went_room f lore sound taught t t' n r state.rows quiet tally walked room)

    pub passed_decides : (budget : ℕ) → r < budget → m ≡ n → DecidesUnder f budget (passed (suc r))
    passed_decides budget h same =
        let (valid, shallow, room, count) = none in (
          omega arith,
          omega (arith, h),
          state.went,
          next_quiet,
          no_more_new f lore sound taught t t' n r state.rows quiet tally walked room (sym count ∙ same),
        )

    -- the rows after the round
    pub next_rows : Holding f (book_of t' tally.rows) (suc r)
    next_rows p =
        let (valid, shallow, room, count) = none in (
          tabled_image f lore sound taught t t' n r state.rows quiet tally walked p,
          image_tabled f lore sound taught t t' n r state.rows quiet tally walked room p,
        )

    pub next_state : (tally.rows ≡ n → ⊥) → AfterRound f lore t₀ t' (suc r) n tally.rows
    next_state other =
        let grown = walked.0 in
        record {
          same_length = grown.same_length ∙ state.same_length;
          same_rest = grown.same_rest ∙ state.same_rest;
          proper_rows = grown.proper_rows;
          rows = next_rows;
          older = grown.more;
          older_rows = older_tabled f lore sound taught t t' n r state.rows quiet tally walked;
          went = λ j low high. went j low high (dec_lt j (suc r));
        }
      where
        went : (j : ℕ) → 1 ≤ j → j < suc (suc r) → Dec (j < suc r) → Quiet (EventOf f) (NewOf f) j × NewOf f j
        went j low high (yes l) = state.went j low l
        went j low high (no l) =
            let e : j ≡ suc r = omega (arith, high, l) in
            let more : n ≤ tally.rows = walked.0.more in
            rw e (
              next_quiet,
              more_new f lore sound taught t t' n r state.rows quiet tally walked (omega (arith, more, other)),
            )
