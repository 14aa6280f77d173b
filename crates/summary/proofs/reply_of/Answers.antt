-- The summary of a refusal is written out as it is defined; that of another answer stays. Assumes nothing.
use mathlib.Core.Path.{sym, ◌∙◌}
use Rattle.summary.specs.Packing.{zeros}
use Rattle.summary.proofs.ReplyLaws.{reply_kept, reply_refused}
use Rattle.summary.proofs.reply_of.Goals as goal
use Rattle.summary.proofs.reply_of.Goals.{then-is_err, else-is_err}

pub returns : goal.returns
unfolding zeros
returns g c =
    elim c.if-is_err.branch [
      | then-is_err w ↦ rw w.summary-is (reply_refused c.args.answer c.args.summary.now (sym c.is_err.ensures.value ∙ w.if-is_err.true))
      | else-is_err w ↦ rw w.summary-is (reply_kept c.args.answer c.args.summary.now (sym c.is_err.ensures.value ∙ w.if-is_err.false))
    ]
