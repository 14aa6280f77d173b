-- The test of row 0 against the ending states of the lore. Assumes nothing.
use Rattle.lore.proofs.LoreLaws.{lores}
use Rattle.lore.proofs.accepts.Goals as goal

pub returns : goal.returns
returns c = search lores
