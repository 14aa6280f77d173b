-- The whole row in each row there is. Assumes nothing.
use Rattle.hedge.proofs.LaneLaws.{lanes}
use Rattle.hedge.proofs.full.Goals as goal

pub overflow_mul-result : goal.overflow_mul-result
overflow_mul-result c = search lanes

pub returns : goal.returns
returns c = search lanes
