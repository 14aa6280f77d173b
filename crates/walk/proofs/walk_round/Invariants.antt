use mathlib.Core.Bool.{Bool}
use Prim.Native.Nat.{ℕ}
use Rattle.pairs.specs.declared.Slot.{Slot}
use Rattle.walk.specs.declared.Round.{Round}
use Rattle.walk.proofs.PlaceLaws.{RuleParts, AtRule, place, Going}
use Rattle.walk.proofs.walk_round.Given as goal

-- the round of these numbers, and what is found at a rule
abbrev pub round_of : ℕ → ℕ → Bool → Round
round_of prev n first = record { prev = prev; rows = n; first = first }

abbrev pub parts_of : ℕ → Slot → Slot → ℕ → ℕ → ℕ → ℕ → RuleParts
parts_of marks left right lefts rights new_left new_right =
    record {
      marks = marks;
      left = left;
      right = right;
      lefts = lefts;
      rights = rights;
      new_left = new_left;
      new_right = new_right;
    }

-- the walk from the table that is lent stands at this right choice, at a rule
abbrev pub invariant-loop-k : goal.invariant-loop-k
invariant-loop-k l =
    AtRule l.rules (round_of l.prev l.n l.first) l.fresh l.i (parts_of l.marks l.left l.right l.lefts l.rights l.new_left l.new_right)
    × Going l.lore.entries l.rules (round_of l.prev l.n l.first) l.fresh l.fn.table (place l.i l.j l.k l.table l.found)

-- at this left choice
abbrev pub invariant-loop-j : goal.invariant-loop-j
invariant-loop-j l =
    AtRule l.rules (round_of l.prev l.n l.first) l.fresh l.i (parts_of l.marks l.left l.right l.lefts l.rights l.new_left l.new_right)
    × Going l.lore.entries l.rules (round_of l.prev l.n l.first) l.fresh l.fn.table (place l.i l.j 0 l.table l.found)

-- before this rule
abbrev pub invariant-loop-i : goal.invariant-loop-i
invariant-loop-i l = Going l.lore.entries l.rules (round_of l.prev l.n l.first) l.fresh l.fn.table (place l.i 0 0 l.table l.found)
