-- Both places of the right side are tested, and a used byte is below 128 by the rules. Assumes nothing.
use Rattle.useful.proofs.CloseLaws.{passes}
use Rattle.useful.proofs.all_marked.Goals as goal

pub returns : goal.returns
returns c = search passes
