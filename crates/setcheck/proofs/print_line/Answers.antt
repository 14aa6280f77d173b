-- What is written are the first bytes of the text, which are the line's (LineLaws of line). Assumes nothing.
use Rattle.line.proofs.LineLaws.{shown_bytes}
use Rattle.setcheck.proofs.LineLaws.{line_printed}
use Rattle.setcheck.proofs.print_line.Goals as goal

pub returns : goal.returns
returns g c = line_printed _ _ _ _ _ _ _ c.checked.ensures.prints (shown_bytes _ _ c.text-text.ensures) c.write_all.ensures.bytes
