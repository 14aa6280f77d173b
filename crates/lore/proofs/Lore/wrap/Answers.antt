-- No rule has a name past the most. The leaf is the element around the empty word; else the entries are joined. Assumes nothing.
use Rattle.lore.proofs.LoreLaws.{lores}
use Rattle.lore.proofs.Lore.wrap.Goals as goal

pub returns-then-a-ge-NAMES : goal.returns-then-a-ge-NAMES
returns-then-a-ge-NAMES c = search lores

pub returns-then-inner-self : goal.returns-then-inner-self
returns-then-inner-self c = search lores
