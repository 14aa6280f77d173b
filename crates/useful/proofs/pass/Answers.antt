-- After i turns the steps at the i first rules are taken (PassLaws). Assumes nothing.
use Rattle.useful.proofs.PassLaws.{steps_none, steps_next}
use Rattle.useful.proofs.pass.Goals as goal

pub loop-i-init : goal.loop-i-init
loop-i-init g c = steps_none _ _

pub loop-i-preserved : goal.loop-i-preserved
loop-i-preserved g c = steps_next _ _ _ _ _ c.loop-i.invariant c.step-m.ensures
