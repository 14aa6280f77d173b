-- The first rows of the unit of eight states. Assumes nothing.
use Rattle.hedge.proofs.LoopLaws.{turns}
use Rattle.hedge.proofs.unit.Goals as goal

pub returns : goal.returns
returns c = search turns
