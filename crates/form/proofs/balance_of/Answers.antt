-- One test of the number of tags: the laws of the balance, in EndingLaws. Assumes nothing.
use Rattle.form.proofs.EndingLaws.{ending_laws}
use Rattle.form.proofs.balance_of.Goals as goal

pub returns-then-c-gt0 : goal.returns-then-c-gt0
returns-then-c-gt0 c = search ending_laws

pub returns : goal.returns
returns c = search ending_laws
