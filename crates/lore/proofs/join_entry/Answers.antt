-- One test, and where it holds one entry read. Assumes nothing.
use Rattle.lore.proofs.LoreLaws.{lores}
use Rattle.lore.proofs.join_entry.Goals as goal

pub returns-then-meets : goal.returns-then-meets
returns-then-meets c = search lores

pub returns : goal.returns
returns c = search lores
