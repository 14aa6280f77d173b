-- How the rounds end, in the words of the code: the state at the loop's head, the walk's reply and table, the event that it met, and the
-- table sorted and cleared give the promise of the check; or the next state. By DecisionLaws and PassLaws. Assumes nothing.
use mathlib.Core.Path.{◌≡◌, refl, sym, ◌∙◌, subst}
use mathlib.Core.List.{List}
use Prim.Native.Nat.{ℕ, suc, ◌+◌, ◌*◌, ◌≤◌, ◌<◌}
use native.Mathlib.Numerals.{add-one}
use native.Mathlib.Omega.{arith}
use lib.ListN.{length, drop}
use Rattle.std.specs.Prelude.{Option, Some, None, Result, Ok, Err}
use Rattle.template.specs.Order.{IsSound}
use Rattle.schema.specs.Schemas.{LoreOf}
use Rattle.trees.specs.Verdict.{met}
use Rattle.rows.specs.Tables.{rows_of, table_of, sorted, cleared}
use Rattle.rows.proofs.PutLaws.{sorted_rows_length}
use Rattle.worktable.specs.Packed.{row_width, table_long}
use Rattle.pairs.specs.Books.{Book, book_of}
use Rattle.pairs.specs.declared.Tally.{Tally}
use Rattle.rounds.specs.declared.CheckRefusal.{CheckRefusal}
use Rattle.rounds.specs.declared.CheckRefusal.TheVariants as check
use Rattle.rounds.specs.declared.Event.{Event}
use Rattle.rounds.specs.declared.Event.TheVariants as event
use Rattle.rounds.specs.Checks.{HasPage, zeroed, Lent, Decided, CheckSays}
use Rattle.rounds.specs.Walking.{Met, event_refusal}
use Rattle.rounds.proofs.StateLaws.{AfterRound, state_used}
use Rattle.rounds.proofs.WalkedLaws.{WalkedOver}
use Rattle.rounds.proofs.DecisionLaws.{event_number, event_decides, passed_decides, next_rows, next_state}
use Rattle.rounds.proofs.PassLaws.{sorted_rows, cleared_zeroed, sorted_shown}

-- the walk's table is as long as it was, and as it was past its rows
walked_length : (f lore t' : List ℕ) (b : Book) (w : Option Tally) → WalkedOver f lore b w t' → length t' ≡ length b.table
walked_length f lore t' b None (l, rest, found) = l
walked_length f lore t' b (Some tally) (grown, happened, noted) = grown.same_length

walked_rest : (f lore t' : List ℕ) (b : Book) (w : Option Tally) → WalkedOver f lore b w t' → drop table_long t' ≡ drop table_long b.table
walked_rest f lore t' b None (l, rest, found) = rest
walked_rest f lore t' b (Some tally) (grown, happened, noted) = grown.same_rest

-- a walk that met no event went through
quiet_went : (w : Option Tally) (m : ℕ) → Met w (Ok m) → (tally : Tally) × (w ≡ Some tally)
quiet_went None m told = absurd told
quiet_went (Some tally) m told = (tally, refl)

-- an event that decides is why the check refuses
event_says : (f t : List ℕ) (budget r : ℕ) (e : Event) → Decided f t budget (met r (event_number e)) → (u : List ℕ) → u ≡ zeroed t
    → CheckSays f t budget (Err (event_refusal e r)) u
event_says f t budget r event.Mismatch d u h = (d, h)
event_says f t budget r event.Invalid d u h = (d, h)
event_says f t budget r event.TooDeep d u h = (d, h)
event_says f t budget r event.Crowded d u h = (d, h)

-- the budget is used
pub ends_used : {f lore t₀ t u : List ℕ} {budget r prev n : ℕ} → Lent f t₀ budget → IsSound f → HasPage f
    → AfterRound f lore t₀ t r prev n → budget ≤ r
    → u ≡ cleared t 0 table_long → CheckSays f t₀ budget (Err (check.OutOfRounds budget)) u
ends_used {f} {lore} {t₀} {t} {u} {budget} {r} {prev} {n} lent sound page state h e =
    (refl, (lent, sound, page, state_used f lore t₀ t r prev n state budget h), cleared_zeroed t₀ t state.same_rest u e)

-- ---- one round more

-- the walk from the state after round r, within the budget, and the event that it met
pub record Turn (f lore t₀ t t' : List ℕ) (budget r prev n : ℕ) (w : Option Tally) (e : Result ℕ Event) : Type 0 where
  pub lent : Lent f t₀ budget
  pub sound : IsSound f
  pub taught : LoreOf f lore
  pub page : HasPage f
  pub state : AfterRound f lore t₀ t r prev n
  pub within : r < budget
  pub walked : WalkedOver f lore (book_of t n) w t'
  pub told : Met w e

module _ {f lore t₀ t t' : List ℕ} {budget r prev n : ℕ} {w : Option Tally} where
  turn_rest : {e : Result ℕ Event} → Turn f lore t₀ t t' budget r prev n w e → drop table_long t' ≡ drop table_long t₀
  turn_rest turn = walked_rest f lore t' (book_of t n) w turn.walked ∙ turn.state.same_rest

  turn_room : {e : Result ℕ Event} → Turn f lore t₀ t t' budget r prev n w e → table_long ≤ length t'
  turn_room turn =
      let (room, low, high) = turn.lent in
      omega (arith, room, walked_length f lore t' (book_of t n) w turn.walked, turn.state.same_length)

  -- the event decides, and the table is cleared
  pub ends_event : {e : Event} → Turn f lore t₀ t t' budget r prev n w (Err e) → {s : CheckRefusal} {u : List ℕ}
      → s ≡ event_refusal e (r + 1) → u ≡ cleared t' 0 table_long → CheckSays f t₀ budget (Err s) u
  ends_event {e} turn {s} {u} reply h =
      let decides =
      event_decides f lore t₀ t t' turn.sound turn.taught r prev n turn.state budget turn.within w e turn.walked turn.told in
      rw reply
      (event_says f t₀ budget (r + 1) e (turn.lent, turn.sound, turn.page, rw add-one decides) u
      (cleared_zeroed t₀ t' (turn_rest turn) u h))

  -- no event, and m rows
  module _ {m : ℕ} (turn : Turn f lore t₀ t t' budget r prev n w (Ok m)) where
    abbrev tally : Tally
    tally = (quiet_went w m turn.told).0

    walk_went : WalkedOver f lore (book_of t n) (Some tally) t'
    walk_went = subst (λ (v : Option Tally). WalkedOver f lore (book_of t n) v t') (quiet_went w m turn.told).1 turn.walked

    told_went : Met (Some tally) (Ok m)
    told_went = subst (λ (v : Option Tally). Met v (Ok m)) (quiet_went w m turn.told).1 turn.told

    count : m ≡ tally.rows
    count = told_went.3

    -- no row came, and those that stand are sorted and shown
    pub ends_passed : m ≡ n → {t₁ u : List ℕ} → t₁ ≡ table_of (sorted (rows_of row_width n t')) t'
        → u ≡ cleared t₁ (n * row_width) table_long → CheckSays f t₀ budget (Ok (record { rounds = r + 1; images = n })) u
    ends_passed same {t₁} {u} e₁ e₂ =
        let all : tally.rows ≡ n = sym count ∙ same in
        let proper = rw all at walk_went.0.proper_rows in
        let rows = next_rows f lore t₀ t t' turn.sound turn.taught r prev n turn.state tally walk_went m told_went in
        let decides = passed_decides f lore t₀ t t' turn.sound turn.taught r prev n turn.state tally walk_went m told_went
        budget turn.within same in (
          (turn.lent, turn.sound, turn.page, rw add-one decides),
          (
            sorted (rows_of row_width n t'),
            rw add-one (sorted_rows f lore t' n (suc r) proper (rw all at rows)),
            sym (sorted_rows_length row_width t' n),
            sorted_shown t₀ t' (turn_rest turn) t₁ u n proper.few (turn_room turn) e₁ e₂,
          ),
        )

    -- a row came, and the rounds go on
    pub goes_on : (m ≡ n → ⊥) → (r + 1 ≤ budget) × AfterRound f lore t₀ t' (r + 1) n m
    goes_on other =
        let within = turn.within in (
          omega (arith, within),
          rw (add-one, count)
              (next_state f lore t₀ t t' turn.sound turn.taught r prev n turn.state tally walk_went m told_went
              (λ same. other (count ∙ same))),
        )
