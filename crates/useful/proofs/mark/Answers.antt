-- The power is exact, since x is below 64, and joined to the marks it is the definition. Assumes nothing.
use Rattle.useful.proofs.CloseLaws.{passes}
use Rattle.useful.proofs.mark.Goals as goal

pub returns : goal.returns
returns c = search passes
