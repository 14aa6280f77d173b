-- The balance says whether a tag is left; where none is, the form is empty, and the test of its piece decides. Each return is a law of
-- EndingLaws. Assumes nothing.
use Rattle.std.proofs.lemmas.Result.{err_from_is_err_and}
use Rattle.form.proofs.EndingLaws.{ending_laws}
use Rattle.form.proofs.ending_of.Goals as goal

pub returns-in_err-whole : goal.returns-in_err-whole
returns-in_err-whole c =
    let p = err_from_is_err_and c.from_residual.result c.from_residual.ensures.1 in
    λ form same. rw (p.1, p.2) (search (ending_laws, c.ok_or.ensures.value, c.in_err-whole.was))

pub returns-then-accepts : goal.returns-then-accepts
returns-then-accepts c = search ending_laws

pub returns : goal.returns
returns c = search ending_laws
