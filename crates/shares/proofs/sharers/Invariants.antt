use Rattle.shares.proofs.GatherLaws.{Gathered}
use Rattle.shares.proofs.sharers.Given as goal

abbrev pub invariant-loop-h : goal.invariant-loop-h
invariant-loop-h l = Gathered l.rules l.i l.h l.marks
