-- After the first piece and k tags, each with its word, the arrays hold what `turned` says of k tags, from the state where the loop begins;
-- a tag and its word lead to k + 1, a refusal is the answer, and after all tags it is the join (FormLaws). Assumes nothing.
use Rattle.std.proofs.lemmas.Result.{err_from_is_err_and}
use Rattle.form.proofs.TurnLaws.{kept_holds}
use Rattle.form.proofs.FormLaws.{turned_kept, form_refused, form_laws}
use Rattle.form.proofs.then_form.Goals as goal

pub loop-k-init : goal.loop-k-init
loop-k-init c = search form_laws

pub returns-in_err-d : goal.returns-in_err-d
returns-in_err-d c =
    let p = err_from_is_err_and c.from_residual.result c.from_residual.ensures.1 in
    rw (p.1, p.2) (search (form_refused, c.loop-k.invariant.1, c.in_err-d.was, c.then_tag.ensures, form_laws))

pub loop-k-preserved : goal.loop-k-preserved
loop-k-preserved c =
    let kept = kept_holds _ _ _ _ _ c.then_tag.ensures c.in_ok-d.was in (
      search (form_laws, kept, c.add_value-in-loop-k.ensures),
      search (turned_kept, c.loop-k.invariant.1, c.then_tag.ensures, c.piece_at-in-loop-k.ensures, c.add_value-in-loop-k.ensures, c.in_ok-d.was),
    )

pub returns : goal.returns
returns c = search form_laws
