use mathlib.Core.Path.{◌≡◌}
use lib.ListN.{drop}
use Rattle.entries.specs.Tests.{first_fault}
use Rattle.entries.proofs.first_fault.Given as goal

abbrev pub invariant-loop-t : goal.invariant-loop-t
invariant-loop-t l = first_fault l.tests ≡ first_fault (drop l.t-index l.tests)
