-- A marked left side and a productive right side justify the marks of the right side; any other rule is kept as it is. Assumes nothing.
use Rattle.useful.proofs.CloseLaws.{passes}
use Rattle.useful.proofs.step_down.Goals as goal

pub returns-then-all_marked : goal.returns-then-all_marked
returns-then-all_marked c = search passes

pub returns-else-all_marked : goal.returns-else-all_marked
returns-else-all_marked c = search passes

pub returns-else-marked : goal.returns-else-marked
returns-else-marked c = search passes
