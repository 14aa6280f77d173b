-- The low byte, and 256 times the high one, as the definition has them. Assumes nothing.
use Rattle.std.proofs.Common.{arith}
use Rattle.template.specs.Layout.{half_at}
use Rattle.template.proofs.half.Goals as goal

pub returns : goal.returns
unfolding half_at
returns c = omega (arith, c.from_le_bytes.ensures)
