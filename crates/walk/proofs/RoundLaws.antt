-- The walk's stages (VisitLaws.antt, JoinedLaws.antt) in the words of `walk_round`: the choices of a rule that is walked can be loaded, and
-- a turn leads to the next right choice or stops the walk. Assumes nothing.
use mathlib.Core.Path.{◌≡◌, refl}
use mathlib.Core.Bool.{Bool, true, false}
use mathlib.Core.List.{List}
use Prim.Native.Nat.{ℕ, ◌*◌, ◌≤◌, ◌<◌}
use native.Mathlib.Omega.{arith}
use lib.ListN.{length}
use Rattle.std.specs.Prelude.{Option}
use Rattle.worktable.specs.Packed.{row_width}
use Rattle.pairs.specs.Books.{book_of}
use Rattle.pairs.specs.Slots.{choices}
use Rattle.pairs.specs.Turns.{lefts_of, Choosable, Turned}
use Rattle.pairs.specs.declared.Slot.{Slot}
use Rattle.pairs.specs.declared.Slot.TheVariants.{Absent, Single, Rows}
use Rattle.pairs.specs.declared.Tally.{Tally}
use Rattle.walk.specs.Walks.{ProperRows}
use Rattle.walk.specs.declared.Round.{Round}
use Rattle.walk.proofs.PlaceLaws.{LentParts, RuleParts, AtRule, walked_at, Place, Going}
use Rattle.walk.proofs.JoinedLaws.{AfterTurn, joined_next}

-- a left choice below the number of those that are walked is one, and the rule is walked
lefts_below : (walked : Bool) (j lefts all : ℕ) → lefts ≡ lefts_of walked all → j < lefts → (walked ≡ true) × (j < all)
lefts_below true j lefts all e l = (refl, rw e at l)
lefts_below false j lefts all e l = absurd (omega arith)

pub news_room : {lore rules t₀ : List ℕ} {n : ℕ} → ProperRows lore rules (book_of t₀ n) → n * row_width ≤ length t₀
news_room proper = omega (arith, proper.room, proper.few)

module _ {lore rules shares : List ℕ} (lent : LentParts lore rules shares) {round : Round} {fresh : ℕ} {p : Place} {parts : RuleParts}
    (rule : AtRule rules round fresh p.i parts) {t₀ : List ℕ} (going : Going lore rules round fresh t₀ p) where
  -- the choices can be loaded

  choosable : (slot : Slot) (k : ℕ) → k < choices slot round.rows → Choosable p.table slot k
  choosable Absent k l = tt
  choosable (Single a) k l = tt
  choosable (Rows x) k l =
      let grown = going.sofar.grown in
      let (q, r, g) = grown.proper_rows.proper k (omega (arith, grown.more)) in
      (omega (arith, grown.proper_rows.room, grown.proper_rows.few, grown.more), (q, r))

  pub left_choosable : p.j < parts.lefts → Choosable p.table parts.left p.j
  left_choosable l =
      choosable parts.left p.j
      (lefts_below (walked_at round fresh parts) p.j parts.lefts (choices parts.left round.rows) rule.lefts_is l).1

  pub right_choosable : p.k < parts.rights → Choosable p.table parts.right p.k
  right_choosable l = choosable parts.right p.k (rw rule.rights_is at l)

  -- one pair more
  module _ (l : p.j < parts.lefts) (h : p.k < parts.rights) {r : Option Tally} {t : List ℕ}
      (turned : Turned lore p.table (record { left = parts.left; j = p.j; right = parts.right; k = p.k }) parts.marks p.found r t)
    where
      pub after_turn : AfterTurn lore rules round fresh t₀ p r t
      after_turn =
          let (e, f) =
          lefts_below (walked_at round fresh parts) p.j parts.lefts (choices parts.left round.rows) rule.lefts_is l in
          joined_next going lent rule rule.marked (rw (← rule.left_is) f)
          (rw (← rule.right_is, ← rule.rights_is) h) r t (rw (rule.left_is, rule.right_is) at turned)
