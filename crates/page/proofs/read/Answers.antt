-- A bad file is refused with its place; under a sound one the bytes are read. Assumes nothing.
use Rattle.std.proofs.lemmas.Result.{err_from_is_err_and}
use Rattle.page.proofs.read.Goals as goal

pub returns-in_err-read : goal.returns-in_err-read
returns-in_err-read c =
    let p = err_from_is_err_and c.from_residual.result c.from_residual.ensures.1 in
    rw (p.1, p.2) c.in_err-read.ensures.bad

pub returns : goal.returns
returns c = rw (← c.in_ok-read.ensures.sound) c.read_under.ensures
