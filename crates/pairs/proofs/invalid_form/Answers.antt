-- Only a form of the start can be an invalid page, and its ending decides (NoteLaws). Assumes nothing.
use Rattle.pairs.proofs.NoteLaws.{start_invalid, other_valid}
use Rattle.pairs.proofs.invalid_form.Goals as goal

pub returns-then-x-eq0 : goal.returns-then-x-eq0
returns-then-x-eq0 c =
    start_invalid _ _ _ _ _ _ _ c.if-x-eq0.true c.piece_at.ensures c.ending_of.ensures c.is_err.ensures.value

pub returns-else-x-eq0 : goal.returns-else-x-eq0
returns-else-x-eq0 c = other_valid _ _ _ _ c.if-x-eq0.false
