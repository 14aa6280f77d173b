-- The form has as many tags as its counts say, so the test of the counts and the last piece is the test of the form. Assumes nothing.
use Rattle.std.proofs.lemmas.Result.{err_from_is_err_and}
use Rattle.page.proofs.PageLaws.{tested_form}
use Rattle.page.proofs.tested.Goals as goal

pub returns-in_err-ending_of : goal.returns-in_err-ending_of
returns-in_err-ending_of c =
    let p = err_from_is_err_and c.from_residual.result c.from_residual.ensures.1 in
    rw (p.1, p.2, ← (tested_form _ c.args.s _ _ c.piece_at-last.ensures c.ending_of.ensures), c.in_err-ending_of.was)

pub returns : goal.returns
returns c = rw (← (tested_form _ c.args.s _ _ c.piece_at-last.ensures c.ending_of.ensures), c.in_ok-ending_of.was)
