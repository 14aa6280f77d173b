-- Zeros are the lore of no state and no rule. Assumes nothing.
use Rattle.lore.proofs.LoreLaws.{untaught_known}
use Rattle.lore.proofs.Lore.untaught.Goals as goal

pub invariant_of-result : goal.invariant_of-result
invariant_of-result c = record { known = untaught_known }
