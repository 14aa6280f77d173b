-- The test is of the nonterminal at the place, if one stands there (SlotLaws). Assumes nothing.
use Rattle.std.proofs.Common.{Bool, true, ◌∙◌}
use Rattle.numbers.specs.Bits.{bit}
use Rattle.useful.specs.Marks.{slot_marked}
use Rattle.useful.proofs.SlotLaws.{slot_some, slot_none}
use Rattle.useful.proofs.symbol_marked.Goals as goal

pub returns-in-Some : goal.returns-in-Some
unfolding slot_marked
returns-in-Some c = c.marked.ensures ∙ slot_some Bool _ _ (bit c.args.marks) true _ c.in-Some.ensures.value

pub returns-in-None : goal.returns-in-None
unfolding slot_marked
returns-in-None c = slot_none Bool _ _ (bit c.args.marks) true c.in-None.ensures.value
