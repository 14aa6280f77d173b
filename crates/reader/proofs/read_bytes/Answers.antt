-- At place i the arrays hold the form of the bytes before it, all of them readable (BytesLaws.SoFar). The byte there keeps that at
-- i + 1, or its step is a refusal, which is handed on as it is; at the end the form is that of all the bytes. Assumes nothing.
use Rattle.std.proofs.lemmas.Result.{err_from_is_err_and}
use Rattle.reader.proofs.BytesLaws.{readings}
use Rattle.reader.proofs.read_bytes.Goals as goal

pub loop-i-init : goal.loop-i-init
loop-i-init c = search readings

pub returns-in_err-c : goal.returns-in_err-c
returns-in_err-c c =
    let p = err_from_is_err_and c.from_residual.result c.from_residual.ensures.1 in
    rw (p.1, p.2) (search (readings, c.in_err-c.ensures))

pub loop-i-preserved : goal.loop-i-preserved
loop-i-preserved c = search (readings, c.in_ok-c.was)

pub returns : goal.returns
returns c = search readings
