use mathlib.Core.Path.{◌≡◌}
use Prim.Native.Nat.{◌*◌, ◌/◌, ◌^◌}
use Rattle.hedge.specs.Relation.{has}
use Rattle.hedge.specs.Operations.{linked, relation}
use Rattle.hedge.proofs.compose.Given as goal

-- as many states as turns so far have been gone through
abbrev pub invariant-loop : goal.invariant-loop
invariant-loop l =
    (l.a ≡ l.left / 2 ^ l.counter)
    × (l.b ≡ l.right / 2 ^ (l.counter * 8))
    × (l.r ≡ relation 8 (linked l.counter (has 8 l.left) (has 8 l.right)))
