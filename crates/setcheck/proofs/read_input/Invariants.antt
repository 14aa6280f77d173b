-- The bytes read so far are in the buffer, whose length stays, and are those that the reader gave (InputLaws). Assumes nothing.
use Rattle.std.proofs.Common.{length, take, ◌≡◌, ◌≤◌}
use Rattle.std.specs.Io.KnownBytes.{Consumes}
use Rattle.setcheck.proofs.read_input.Given as goal

abbrev pub invariant-loop : goal.invariant-loop
invariant-loop g l = record {
  within : l.at ≤ length l.buffer;
  same_length : length l.buffer ≡ length l.fn.buffer;
  from : Consumes (g.R.Read.remaining l.fn.reader) (g.R.Read.remaining l.reader) (take l.at l.buffer);
}
