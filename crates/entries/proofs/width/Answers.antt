-- Each variant's number is the definition's, once the variant is known. Assumes nothing.
use Rattle.entries.specs.Entries.{width}
use Rattle.entries.proofs.width.Goals as goal

pub returns-in-Templates : goal.returns-in-Templates
unfolding width
returns-in-Templates c = rw (c.in-Templates.is, c.from.ensures)

pub returns-in-Schema : goal.returns-in-Schema
unfolding width
returns-in-Schema c = rw c.in-Schema.is

pub returns-in-Endings : goal.returns-in-Endings
unfolding width
returns-in-Endings c = rw c.in-Endings.is
