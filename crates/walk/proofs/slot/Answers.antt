-- A rule's length tells whether the place is used, and its byte what stands there (ChoiceLaws). Assumes nothing.
use Rattle.walk.proofs.ChoiceLaws.{rule_slot}
use Rattle.walk.proofs.slot.Goals as goal

pub returns : goal.returns
returns c = rule_slot _ _ _ _ _ c.from.ensures c.slot_of.ensures
