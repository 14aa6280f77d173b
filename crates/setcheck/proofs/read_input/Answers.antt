-- What stands in the buffer are the bytes that the reader had, up to where the reads have come (InputLaws); a read that ends or fails decides.
-- Assumes nothing.
use Rattle.std.proofs.Common.{rules, ◌≡◌, ◌<◌, length, take}
use Rattle.line.specs.Lines.{room}
use Rattle.setcheck.proofs.InputLaws.{read_more, read_none, read_ended, read_to_full}
use Rattle.setcheck.proofs.read_input.Goals as goal
use Rattle.setcheck.proofs.read_input.Goals.{in-Ok, in-Err+else-ne}

pub returns-then-at-buffer-clause-from : goal.returns-then-at-buffer-clause-from
returns-then-at-buffer-clause-from g c =
    let full : length (take c.loop.at c.loop.buffer) ≡ room = search rules in
    read_to_full _ _ _ _ c.loop.invariant.from full

pub returns-clause-from : goal.returns-clause-from
returns-clause-from g c =
    let full : length (take c.loop.at c.loop.buffer) ≡ room = search rules in
    read_to_full _ _ _ _ c.loop.invariant.from full

pub returns-in-Ok-eq0-clause-from : goal.returns-in-Ok-eq0-clause-from
returns-in-Ok-eq0-clause-from g c =
    let before = c.loop.invariant in
    let read = c.in-Ok-eq0.ensures.bytes in
    let none : c.in-Ok-eq0.field-0 ≡ 0 = search rules in
    let some : 0 < length c.read.new.buf = search rules in
    read_ended _ _ _ _ _ _ _ before.within before.from room _ (search rules) none read.0 (read.1 none some)

pub loop-preserved : goal.loop-preserved
loop-preserved g c =
    let before = c.loop.invariant in
    elim c.match-read.branch [
      | in-Ok w ↦ rw w.at-is (record {
        within = search rules;
        same_length = search rules;
        from = read_more _ _ _ _ _ _ _ before.within before.from w.in-Ok.n (search rules) w.in-Ok.ensures.bytes.0;
      })
      | in-Err+else-ne w ↦ rw w.at-is (record {
        within = search rules;
        same_length = search rules;
        from = read_none _ _ _ _ _ _ _ before.within before.from w.in-Err.ensures.bytes;
      })
    ]
