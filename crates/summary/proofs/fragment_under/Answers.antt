-- A bad file is refused with its place. Of a sound one the schema is taught, and what reading finds with it is found under the file.
-- Assumes nothing.
use Rattle.std.proofs.Common.{List, ℕ, Err, subst}
use Rattle.std.proofs.lemmas.Result.{err_from_is_err_and}
use Rattle.summary.specs.Replies.{reply_of, stopped}
use Rattle.summary.specs.Fragments.{FragmentSays}
use Rattle.summary.proofs.FragmentLaws.{says_bad, says_found}
use Rattle.summary.proofs.fragment_under.Goals as goal

pub returns-in_err-sound : goal.returns-in_err-sound
returns-in_err-sound c =
    let p = err_from_is_err_and c.from_residual.result c.from_residual.ensures.1 in
    rw (p.1, p.2) (says_bad _ c.args.bytes.now _ c.in_err-sound.ensures.bad)

pub returns-in_err-summary : goal.returns-in_err-summary
returns-in_err-summary c =
    let p = err_from_is_err_and c.from_residual-in_err-summary.result c.from_residual-in_err-summary.ensures.1 in
    let says =
    rw c.in_err-summary.was at
    (says_found _ _ c.in_ok-sound.sound.is_read _ c.teach.ensures c.args.bytes.now c.summarise.result c.summarise.ensures) in
    rw (p.1, p.2)
    (subst (λ (f : List ℕ). FragmentSays f c.args.bytes.now (reply_of (Err (stopped c.in_err-summary.field-0.0)))) c.in_ok-sound.ensures.sound says)

pub returns : goal.returns
returns c =
    rw (← c.in_ok-sound.ensures.sound)
    (rw c.in_ok-summary.was at
    (says_found _ _ c.in_ok-sound.sound.is_read _ c.teach.ensures c.args.bytes.now c.summarise.result c.summarise.ensures))
