-- The test of a bit is `bit` as it is written. Assumes nothing.
use Rattle.numbers.specs.Bits.{bit}
use Rattle.useful.proofs.CloseLaws.{passes}
use Rattle.useful.proofs.marked.Goals as goal

pub returns : goal.returns
unfolding bit
returns c = search passes
