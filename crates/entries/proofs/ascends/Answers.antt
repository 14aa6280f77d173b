-- The body's first entry ascends. A later one does where the entry before it precedes it: the two slices are the definition's
-- parts of `wide` bytes. Assumes nothing.
use mathlib.Core.Path.{◌∙◌}
use Rattle.entries.proofs.AscentLaws.{ascends_first, ascends_later}
use Rattle.entries.proofs.ascends.Goals as goal

pub returns-then-at-first : goal.returns-then-at-first
returns-then-at-first c = ascends_first c.args.wide c.args.file.now c.args.first c.args.at c.if-at-first.true

pub returns : goal.returns
returns c =
    c.precedes.ensures
    ∙ ascends_later c.args.wide c.args.file.now c.args.first c.args.at (c.requires.0 c.if-at-first.false) c.if-at-first.false
