-- The relation of one pair is the power at its place. Assumes nothing.
use Rattle.lore.proofs.LoreLaws.{lores}
use Rattle.lore.proofs.one_pair.Goals as goal

pub returns : goal.returns
returns c = search lores
