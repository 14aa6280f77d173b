-- Where the rounds stand after round r: the rows below n are the images after it, those below prev the images after the round before,
-- and every round so far was without event and found a new image. At the start there are no rows and no images. What the rules make of
-- the older rows was met in round r, which had no event, so it is settled, as the walk asks. Assumes nothing.
use mathlib.Core.Path.{◌≡◌, refl}
use mathlib.Core.List.{List}
use Prim.Native.Nat.{ℕ, zero, suc, pred, ◌≤◌}
use native.Mathlib.Decide.{dec_le}
use native.Mathlib.Omega.{arith}
use lib.Dec.{eqb}
use lib.ListN.{length, drop}
use borrow.Author.Tests.{eqb-true, eqb-false}
use Rattle.words.specs.Reduced.{Stack, tags}
use Rattle.words.specs.Reader.{Outcome, reduced, differ}
use Rattle.hedge.specs.Schema.{Valid}
use Rattle.pieces.specs.declared.Piece.{Piece}
use Rattle.pieces.specs.Pieces.{most_tags}
use Rattle.template.specs.Layout.{template_rules}
use Rattle.template.specs.Order.{IsSound}
use Rattle.schema.specs.Schemas.{schema_of, binoid_of, LoreOf}
use Rattle.trees.specs.Events.{Pair}
use Rattle.trees.specs.Verdict.{Quiet, WentOn, Decides, used}
use Rattle.trees.proofs.EventLaws.{image_none, event_none}
use Rattle.worktable.specs.Packed.{most_images, table_long}
use Rattle.pairs.specs.Books.{Book, book_of}
use Rattle.walk.specs.Walks.{ValidForm, ProperRows, Eventless, RoundBegins}
use Rattle.walk.specs.declared.Round.{Round}
use Rattle.rounds.specs.Checks.{RuleOf, EventOf, NewOf}
use Rattle.rounds.proofs.FormLaws.{form_decided}
use Rattle.rounds.proofs.ResultLaws.{Over, Holding, over_image, over_mismatch, over_deep, over_invalid}

-- the state after round r, of a table that was t₀ at the start
pub record AfterRound (f lore t₀ t : List ℕ) (r prev n : ℕ) : Type 0 where
  pub same_length : length t ≡ length t₀
  pub same_rest : drop table_long t ≡ drop table_long t₀
  pub proper_rows : ProperRows lore (template_rules f) (book_of t n)
  pub rows : Holding f (book_of t n) r
  pub older : prev ≤ n
  pub older_rows : Holding f (book_of t prev) (pred r)
  pub went : WentOn (EventOf f) (NewOf f) (suc r)

-- no row packs anything
nothing_tabled : (f t : List ℕ) → Holding f (book_of t 0) 0
nothing_tabled f t p = (λ (k, l, a). absurd (omega (arith, l)), λ i. absurd (image_none i))

pub start_state : (f lore t₀ : List ℕ) → table_long ≤ length t₀ → AfterRound f lore t₀ t₀ 0 0 0
start_state f lore t₀ room = record {
  same_length = refl;
  same_rest = refl;
  proper_rows = record {
    room = room;
    few = omega arith;
    proper = λ k l. absurd (omega (arith, l));
    different = λ j k l. absurd (omega (arith, l));
  };
  rows = nothing_tabled f t₀;
  older = omega arith;
  older_rows = nothing_tabled f t₀;
  went = λ j h l. absurd (omega (arith, h, l));
}

module _ (f lore t₀ t : List ℕ) (r prev n : ℕ) (state : AfterRound f lore t₀ t r prev n) where
  -- no event so far
  pub state_quiet : (j : ℕ) → j ≤ r → Quiet (EventOf f) (NewOf f) j
  state_quiet zero h = event_none (RuleOf f) (binoid_of f) (Valid (schema_of f)) most_tags most_images
  state_quiet (suc j) h = (state.went (suc j) (omega arith) (omega (arith, h))).0

  -- the budget is used
  pub state_used : (budget : ℕ) → budget ≤ r → Decides (EventOf f) (NewOf f) budget used
  state_used budget h j l k = state.went j l (omega (arith, h, k))

-- ---- what the walk asks

-- the round after round r
abbrev pub next_round : ℕ → ℕ → ℕ → Round
next_round r prev n = record { prev = prev; rows = n; first = eqb r 0 }

module _ (f lore : List ℕ) (sound : IsSound f) (taught : LoreOf f lore) where
  -- what the rules make of older rows, where the rounds after them had no event
  module _ (b b' : Book) (q : ℕ) (before : Holding f b q) (rows : Holding f b' (suc q)) (quiet : Quiet (EventOf f) (NewOf f) (suc q))
      (still : Quiet (EventOf f) (NewOf f) q) where
    few_tags : (x : ℕ) (s : Stack Piece) (c : Piece) → Over f lore b x (reduced s c) → Dec (tags s ≤ most_tags) → tags s ≤ most_tags
    few_tags x s c o (yes h) = h
    few_tags x s c o (no h) =
        absurd (quiet 3 ((over_deep f lore sound taught b q before still).1 (x, s, c, o, omega (arith, h))))

    page_form : (s : Stack Piece) (c : Piece) → Over f lore b 0 (reduced s c) → Dec (ValidForm lore s c) → ValidForm lore s c
    page_form s c o (yes v) = v
    page_form s c o (no v) = absurd (quiet 2 ((over_invalid f lore sound taught b q before still).1 (reduced s c, o, v)))

    over_eventless : (x : ℕ) (o : Outcome Piece) → Over f lore b x o → Eventless lore (template_rules f) b' x o
    over_eventless x (differ a c) o = absurd (quiet 1 ((over_mismatch f lore sound taught b q before still).1 (x, a, c, o)))
    over_eventless x (reduced s c) o =
        let few : tags s ≤ most_tags = few_tags x s c o (dec_le (tags s) most_tags) in
        let p : Pair Piece = record { of = x; form = s; last = c } in (
          s,
          c,
          refl,
          few,
          (rows p).1 ((over_image f lore sound taught b q before still p).1 (o, few)),
          λ e. page_form s c (rw e at o) (form_decided lore s c),
        )

  module _ (t₀ t : List ℕ) where
    -- at the start no row, since it would pack an image
    no_rows : (prev n : ℕ) → AfterRound f lore t₀ t 0 prev n → n ≡ 0
    no_rows prev zero s = refl
    no_rows prev (suc n) s =
        let (p, a, g) = s.proper_rows.proper 0 (omega arith) in
        absurd (image_none ((s.rows p).0 (0, omega arith, a)))

    pub state_begins : (r prev n : ℕ) → AfterRound f lore t₀ t r prev n
        → RoundBegins lore (template_rules f) t (next_round r prev n)
    state_begins zero prev n s = record {
      older = s.older;
      nothing_yet = λ e. no_rows prev n s;
      settled = λ e. absurd (eqb-false 0 0 e refl);
    }
    state_begins (suc r) prev n s =
        let quiet = state_quiet f lore t₀ t (suc r) prev n s in
        record {
          older = s.older;
          nothing_yet = λ e. absurd (omega (arith, eqb-true (suc r) 0 e));
          settled = λ e.
              over_eventless (book_of t prev) (book_of t n) r s.older_rows s.rows (quiet (suc r) (omega arith))
              (quiet r (omega arith));
        }
