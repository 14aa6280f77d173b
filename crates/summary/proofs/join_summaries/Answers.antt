-- The schema taught is that of a sound file, and the left summary stands in the arrays; what joining the right one leaves there is the
-- joined summary, and a refusal is the join's own. Assumes nothing.
use mathlib.Core.Path.{◌≡◌}
use lib.ListN.{length}
use borrow.Author.Rules.{rules}
use Rattle.std.proofs.lemmas.Result.{err_from_is_err_and}
use Rattle.pieces.specs.Pieces.{most_tags, pieces_long}
use Rattle.summary.proofs.JoinedLaws.{holds_summary, join_turns}
use Rattle.summary.proofs.join_summaries.Goals as goal

pub then_form-requires : goal.then_form-requires
then_form-requires c =
    let names-room : length c.args.left.now.names ≡ most_tags = search rules in
    let values-room : length c.args.left.now.values ≡ pieces_long = search rules in
    record {
      holds = holds_summary c.args.sound.file.now c.args.left.now names-room values-room c.requires.summary_under;
      more_bound = c.requires.summary_under_2.few;
    }

pub returns-in_err-counts : goal.returns-in_err-counts
returns-in_err-counts c =
    let p = err_from_is_err_and c.from_residual.result c.from_residual.ensures.1 in
    rw (p.1, p.2) (search (join_turns, c.then_form.ensures, c.in_err-counts.was))

pub returns : goal.returns
returns c = search (join_turns, c.then_form.ensures, c.in_ok-counts.was)
