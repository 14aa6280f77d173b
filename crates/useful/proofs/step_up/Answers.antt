-- A right side that is all marked justifies the mark of its left side; any other rule is kept as it is. Assumes nothing.
use Rattle.useful.proofs.CloseLaws.{passes}
use Rattle.useful.proofs.step_up.Goals as goal

pub returns-then-all_marked : goal.returns-then-all_marked
returns-then-all_marked c = search passes

pub returns : goal.returns
returns c = search passes
