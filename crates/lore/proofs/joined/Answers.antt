-- The turn at y joins the entry of inner state y where its row meets the ending states. Assumes nothing.
use Rattle.lore.proofs.LoreLaws.{lores}
use Rattle.lore.proofs.joined.Goals as goal

pub loop-y-init : goal.loop-y-init
loop-y-init c = search lores

pub loop-y-preserved : goal.loop-y-preserved
loop-y-preserved c = search lores

pub returns : goal.returns
returns c = search lores
