-- The row of the form is looked for, and put behind the others where there is room (NoteLaws). Assumes nothing.
use Rattle.pairs.proofs.NoteLaws.{note_crowded, note_stands, note_no_room, note_behind}
use Rattle.pairs.proofs.note_form.Goals as goal

pub returns-then-notes : goal.returns-then-notes
returns-then-notes c form count packs = search (note_crowded, c.invalid_form.ensures form count, c.if-notes.true)

pub returns-then-holds : goal.returns-then-holds
returns-then-holds c form count packs =
    search (note_stands, c.invalid_form.ensures form count, packs, c.holds.ensures, c.if-holds.true)

pub returns-then-rows-ge-IMAGES : goal.returns-then-rows-ge-IMAGES
returns-then-rows-ge-IMAGES c form count packs = search (note_no_room, c.invalid_form.ensures form count, packs)

pub returns : goal.returns
returns c form count packs = search (note_behind, c.invalid_form.ensures form count, packs)
