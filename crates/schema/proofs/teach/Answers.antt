-- The lists that the view shows are the sound file's; what is taught from them is its lore. Assumes nothing.
use Rattle.schema.proofs.TeachLaws.{teach_few, teach_rules_below, teach_names_below, teach_ends_below, teach_taught}
use Rattle.schema.proofs.teach.Goals as goal

pub teach-requires : goal.teach-requires
teach-requires c =
    let file = c.args.sound.file.now in
    let schema = rw c.of-view.ensures at c.schema.ensures in
    let endings = rw c.of-view.ensures at c.endings.ensures in
    record {
      states_le_most_states = teach_few file c.args.sound.shape c.args.sound.is_read _ c.from.ensures;
      rules_below = teach_rules_below file c.args.sound.shape c.args.sound.is_read _ c.from.ensures _ schema;
      names_below = teach_names_below file c.args.sound.shape c.args.sound.is_read _ c.from.ensures _ schema;
      ends_below = teach_ends_below file c.args.sound.shape c.args.sound.is_read _ c.from.ensures _ endings;
      lore_value = c.requires;
    }

pub returns : goal.returns
returns c =
    let schema = rw c.of-view.ensures at c.schema.ensures in
    let endings = rw c.of-view.ensures at c.endings.ensures in
    teach_taught c.args.sound.file.now c.args.sound.shape c.args.sound.is_read _ c.from.ensures _ _ schema endings _ c.teach.ensures
