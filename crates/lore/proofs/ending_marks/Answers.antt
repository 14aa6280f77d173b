-- The bits are those of the ending states so far. Assumes nothing.
use Rattle.lore.proofs.LoreLaws.{lores}
use Rattle.lore.proofs.ending_marks.Goals as goal

pub loop-end-init : goal.loop-end-init
loop-end-init c = search lores

pub loop-end-preserved : goal.loop-end-preserved
loop-end-preserved c = search lores

pub returns : goal.returns
returns c = search lores
