use mathlib.Core.Path.{◌≡◌}
use Rattle.entries.specs.Entries.{precedes}
use Rattle.entries.proofs.precedes.Given as goal

abbrev pub invariant-loop-x : goal.invariant-loop-x
invariant-loop-x l = precedes l.left l.right ≡ precedes l.x-iterator.a.rest.now l.x-iterator.b.rest.now
