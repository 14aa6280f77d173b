-- A bad file is refused with its place. Of a sound one the numbers are the file's, so the test says whether the struct is a summary
-- under it; a summary's counts give its net depth. Assumes nothing.
use mathlib.Core.Path.{◌∙◌, sym}
use Rattle.std.proofs.lemmas.Result.{err_from_is_err_and}
use Rattle.form.proofs.HeldLaws.{net_held}
use Rattle.template.proofs.ShapeLaws.{read_is, shape_sound, states_few}
use Rattle.summary.proofs.ShapeLaws.{passed_summary, failed_summary}
use Rattle.summary.proofs.SignedLaws.{difference_again}
use Rattle.summary.proofs.net_depth.Goals as goal

pub returns-in_err-shape : goal.returns-in_err-shape
returns-in_err-shape c =
    let p = err_from_is_err_and c.from_residual.result c.from_residual.ensures.1 in
    rw (p.1, p.2) (read_is _ _ _ c.read.ensures c.in_err-shape.was)

pub is_summary-requires : goal.is_summary-requires
is_summary-requires c = states_few _ _ (read_is _ _ _ c.read.ensures c.in_ok-shape.was) c.from.result c.from.ensures

pub returns-then-not-is_summary : goal.returns-then-not-is_summary
returns-then-not-is_summary c = (
  shape_sound _ _ (read_is _ _ _ c.read.ensures c.in_ok-shape.was),
  failed_summary _ _ (read_is _ _ _ c.read.ensures c.in_ok-shape.was) c.from.result c.from.ensures _ c.is_summary.result c.is_summary.ensures
      (rw c.if-not-is_summary.true),
)

pub difference-requires : goal.difference-requires
difference-requires c =
    (passed_summary _ _ (read_is _ _ _ c.read.ensures c.in_ok-shape.was) c.from.result c.from.ensures _ c.is_summary.result c.is_summary.ensures
    (rw c.if-not-is_summary.false)).few

pub returns : goal.returns
returns c =
    let summary = passed_summary _ _ (read_is _ _ _ c.read.ensures c.in_ok-shape.was) c.from.result c.from.ensures c.args.s c.is_summary.result
    c.is_summary.ensures (rw c.if-not-is_summary.false) in (
      shape_sound _ _ (read_is _ _ _ c.read.ensures c.in_ok-shape.was),
      summary,
      difference_again c.args.s.counts.starts c.args.s.counts.ends summary.few c.difference.result c.difference.ensures
          ∙ sym (net_held c.args.s.counts.ends c.args.s.counts.starts c.args.s.names c.args.s.values),
    )
