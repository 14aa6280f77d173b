-- Three numbers, each behind the one before, over zeros (LineLaws). Assumes nothing.
use Rattle.line.proofs.LineLaws.{line_shows}
use Rattle.line.proofs.line_of.Goals as goal

pub returns : goal.returns
returns c = search line_shows
