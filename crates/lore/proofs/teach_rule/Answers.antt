-- The entry first, then the leaf: neither place is one of the other's. The leaf is joined with the pair where the empty word meets the
-- ending states, else with none. Assumes nothing.
use Rattle.lore.proofs.LoreLaws.{lores}
use Rattle.lore.proofs.teach_rule.Goals.{then-meets, else-meets}
use Rattle.lore.proofs.teach_rule.Goals as goal

pub returns : goal.returns
returns c = elim c.if-meets.branch [ then-meets w ↦ search lores | else-meets w ↦ search lores ]
