-- The line is that of the reply's numbers, and no number of 64 bits is too long for it (TextLaws). Assumes nothing.
use Rattle.std.proofs.Common.{arith}
use Rattle.line.proofs.TextLaws.{line_fits}
use Rattle.line.proofs.checked.Goals as goal

pub returns-clause-fits : goal.returns-clause-fits
returns-clause-fits c = line_fits _ _ _ (omega arith) (omega arith) (omega arith)
