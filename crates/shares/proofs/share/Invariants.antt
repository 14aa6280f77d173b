use Rattle.shares.specs.Shares.{SharesBelow}
use Rattle.shares.proofs.share.Given as goal

abbrev pub invariant-loop-i : goal.invariant-loop-i
invariant-loop-i l = SharesBelow l.rules l.i l.shares
