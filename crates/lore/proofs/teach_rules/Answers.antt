-- Before the first rule entries and leaves are zeros, which are the relation of no pair. Assumes nothing.
use Rattle.lore.proofs.LoreLaws.{lores}
use Rattle.lore.proofs.teach_rules.Goals as goal

pub loop-i-init : goal.loop-i-init
loop-i-init c = search lores
