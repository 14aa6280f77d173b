-- The start is marked exactly where it derives some page, and what is reached is then useful (PartLaws); so the shares are found, and
-- they are those of the file's rules. Assumes nothing.
use mathlib.Core.Path.{refl}
use borrow.Author.Rules.{rules}
use Rattle.template.proofs.ShapeLaws.{shape_sound}
use Rattle.shares.specs.Shares.{Shares}
use Rattle.rounds.proofs.PartLaws.{part_viewed, of_file, part_in_range, part_few, marked_page, unmarked_no_page, reached_useful}
use Rattle.rounds.proofs.check_sound.Goals as goal

pub productive-productive-requires : goal.productive-productive-requires
productive-productive-requires c = part_in_range _ c.args.sound.is_read (part_viewed c.args.sound.shape c.of.ensures c.templates-rules.ensures)

pub returns-then-not-marked : goal.returns-then-not-marked
returns-then-not-marked c = (
  c.requires,
  shape_sound _ _ c.args.sound.is_read,
  unmarked_no_page _ c.args.sound.is_read (part_viewed c.args.sound.shape c.of.ensures c.templates-rules.ensures) _ c.productive-productive.ensures _ c.marked.ensures
      (rw c.if-not-marked.true),
  refl,
)

pub reached-useful-requires : goal.reached-useful-requires
reached-useful-requires c =
    record {
      rules_in_range = part_in_range _ c.args.sound.is_read (part_viewed c.args.sound.shape c.of.ensures c.templates-rules.ensures);
      marks_all = c.productive-productive.ensures;
    }

pub share-requires : goal.share-requires
share-requires c =
    record {
      rules_in_range = part_in_range _ c.args.sound.is_read (part_viewed c.args.sound.shape c.of.ensures c.templates-rules.ensures);
      marks_all = c.productive-productive.ensures;
      marks_all_2 =
          reached_useful _ c.args.sound.is_read (part_viewed c.args.sound.shape c.of.ensures c.templates-rules.ensures) _ c.productive-productive.ensures _ c.marked.ensures
          (rw c.if-not-marked.false) _ c.reached-useful.ensures;
      rules_len_bound = part_few _ c.args.sound.is_read (part_viewed c.args.sound.shape c.of.ensures c.templates-rules.ensures);
      shares_len = search rules;
    }

pub rounds-requires : goal.rounds-requires
rounds-requires c =
    record {
      lore_of = c.teach.ensures;
      shares =
          of_file c.args.sound.file.now c.args.sound.is_read (part_viewed c.args.sound.shape c.of.ensures c.templates-rules.ensures) (λ rules. Shares rules c.share.new.shares)
          c.share.ensures;
      has_page =
          marked_page c.args.sound.file.now c.args.sound.is_read (part_viewed c.args.sound.shape c.of.ensures c.templates-rules.ensures) _ c.productive-productive.ensures _
          c.marked.ensures (rw c.if-not-marked.false);
      lent = c.requires;
    }
