use Rattle.useful.specs.Marks.{StepsTo}
use Rattle.useful.proofs.pass.Given as goal

abbrev pub invariant-loop-i : goal.invariant-loop-i
invariant-loop-i g l = StepsTo (goal.F-post g l.step) l.i l.fn.marks l.m
