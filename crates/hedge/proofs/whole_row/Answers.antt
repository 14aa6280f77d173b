-- A power less one. Assumes nothing.
use Rattle.hedge.proofs.LaneLaws.{lanes}
use Rattle.hedge.proofs.whole_row.Goals as goal

pub returns : goal.returns
returns c = search lanes
