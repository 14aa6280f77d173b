-- The tests come in the order of the answers 9, 8 and 7; what is left is a sound file (check_sound). Assumes nothing.
use mathlib.Core.Path.{refl}
use borrow.Author.Rules.{rules}
use Rattle.std.proofs.lemmas.Result.{err_from_is_err_and}
use Rattle.rounds.proofs.check.Goals as goal

pub returns-in_err-read : goal.returns-in_err-read
returns-in_err-read c =
    let p = err_from_is_err_and c.from_residual.result c.from_residual.ensures.1 in
    rw (p.1, p.2) (search rules, c.in_err-read.ensures.bad, refl)

pub returns : goal.returns
returns c = rw (← c.in_ok-read.ensures.sound) c.check_sound.ensures
