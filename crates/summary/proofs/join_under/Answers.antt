-- A bad file is refused with its place. Of a sound one the numbers are the file's, so each test says whether a struct is a summary under
-- it; two summaries are joined. Assumes nothing.
use Rattle.std.proofs.lemmas.Result.{err_from_is_err_and}
use Rattle.template.proofs.ShapeLaws.{shape_sound, states_few}
use Rattle.summary.proofs.ShapeLaws.{passed_summary, failed_summary}
use Rattle.summary.proofs.JoinedLaws.{join_bad, join_no_left, join_no_right}
use Rattle.summary.proofs.join_under.Goals as goal

pub returns-in_err-sound : goal.returns-in_err-sound
returns-in_err-sound c =
    let p = err_from_is_err_and c.from_residual.result c.from_residual.ensures.1 in
    rw (p.1, p.2) (join_bad _ c.args.left.now c.args.right.now _ c.in_err-sound.ensures.bad)

pub is_summary-requires : goal.is_summary-requires
is_summary-requires c = states_few _ _ c.in_ok-sound.sound.is_read c.from.result c.from.ensures

pub returns-then-not-is_summary : goal.returns-then-not-is_summary
returns-then-not-is_summary c =
    let sound = c.in_ok-sound.sound.is_read in
    rw (← c.in_ok-sound.ensures.sound)
    (join_no_left _ c.args.left.now c.args.right.now (shape_sound _ _ sound)
    (failed_summary _ _ sound c.from.result c.from.ensures c.args.left.now c.is_summary.result c.is_summary.ensures (rw c.if-not-is_summary.true)))

pub is_summary-requires-2 : goal.is_summary-requires-2
is_summary-requires-2 c = states_few _ _ c.in_ok-sound.sound.is_read c.from-2.result c.from-2.ensures

pub returns-then-not-is_summary-2 : goal.returns-then-not-is_summary-2
returns-then-not-is_summary-2 c =
    let sound = c.in_ok-sound.sound.is_read in
    rw (← c.in_ok-sound.ensures.sound)
    (join_no_right _ c.args.left.now c.args.right.now (shape_sound _ _ sound)
    (failed_summary _ _ sound c.from-2.result c.from-2.ensures c.args.right.now c.is_summary-2.result c.is_summary-2.ensures (rw c.if-not-is_summary-2.true)))

pub join_summaries-requires : goal.join_summaries-requires
join_summaries-requires c =
    let sound = c.in_ok-sound.sound.is_read in
    record {
      summary_under = passed_summary _ _ sound c.from.result c.from.ensures c.args.left.now c.is_summary.result c.is_summary.ensures
          (rw c.if-not-is_summary.false);
      summary_under_2 = passed_summary _ _ sound c.from-2.result c.from-2.ensures c.args.right.now c.is_summary-2.result c.is_summary-2.ensures
          (rw c.if-not-is_summary-2.false);
    }

pub returns : goal.returns
returns c = rw (← c.in_ok-sound.ensures.sound) c.join_summaries.ensures
