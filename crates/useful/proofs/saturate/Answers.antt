-- So many passes have led to the marks, and one that adds some makes the number larger (PassLaws). Assumes nothing.
use Rattle.std.proofs.Common.{◌+◌}
use Rattle.useful.proofs.PassLaws.{steps_none, steps_next}
use Rattle.useful.proofs.saturate.Goals as goal

pub loop-m-init : goal.loop-m-init
loop-m-init g c = (0, steps_none _ _)

pub loop-m-preserved : goal.loop-m-preserved
loop-m-preserved g c = (c.loop-m.invariant.0 + 1, steps_next _ _ _ _ _ c.loop-m.invariant.1 c.pass-next.ensures)
