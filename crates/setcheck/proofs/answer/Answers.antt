-- What was read is the whole input or its first bytes, whose line is that of the whole (LineLaws).
use Rattle.setcheck.proofs.LineLaws.{whole_printed}
use Rattle.setcheck.proofs.answer.Goals as goal

pub returns-in-Ok : goal.returns-in-Ok
returns-in-Ok g c = whole_printed _ _ _ _ c.in_ok-n.ensures.from c.in-Ok.ensures
