-- The remainder by a row's power. Assumes nothing.
use Rattle.hedge.proofs.LoopLaws.{turns}
use Rattle.hedge.proofs.row.Goals as goal

pub returns : goal.returns
returns c = search turns
