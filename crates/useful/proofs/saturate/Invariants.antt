use Rattle.std.proofs.Common.{ℕ, ◌-◌}
use Rattle.useful.specs.Marks.{StepsTo}
use Rattle.useful.proofs.saturate.Given as goal

abbrev pub invariant-loop-m : goal.invariant-loop-m
invariant-loop-m g l = (n : ℕ) × StepsTo (λ i. goal.F-post g l.pass) n l.fn.marks l.m

abbrev pub decreases-loop-m : goal.decreases-loop-m
decreases-loop-m g l = 18446744073709551616 - l.m
