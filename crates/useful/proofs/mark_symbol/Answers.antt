-- The mark is of the nonterminal at the place, if one stands there (SlotLaws). Assumes nothing.
use Rattle.std.proofs.Common.{ℕ, ◌∙◌}
use Rattle.useful.specs.Marks.{with_mark, with_slot}
use Rattle.useful.proofs.SlotLaws.{slot_some, slot_none}
use Rattle.useful.proofs.mark_symbol.Goals as goal

pub returns-in-Some : goal.returns-in-Some
unfolding with_slot
returns-in-Some c = c.mark.ensures ∙ slot_some ℕ _ _ (with_mark c.args.marks) c.args.marks _ c.in-Some.ensures.value

pub returns-in-None : goal.returns-in-None
unfolding with_slot
returns-in-None c = slot_none ℕ _ _ (with_mark c.args.marks) c.args.marks c.in-None.ensures.value
