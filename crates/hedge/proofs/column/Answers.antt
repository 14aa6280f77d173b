-- The mask is the first column of all pairs. Assumes nothing.
use Rattle.hedge.proofs.LoopLaws.{turns}
use Rattle.hedge.proofs.column.Goals as goal

pub returns : goal.returns
returns c = search turns
