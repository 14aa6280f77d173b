-- After i turns the first i bytes are the body's, and the rest is what was lent. Assumes nothing.
use Rattle.std.proofs.Common.{◌≡◌, ◌++◌, length, take, drop}
use Rattle.save.proofs.put_body.Given as goal

abbrev pub invariant-loop-i : goal.invariant-loop-i
invariant-loop-i l = (length l.out ≡ length l.initial.out) × (l.out ≡ take l.i l.body ++ drop l.i l.initial.out)
