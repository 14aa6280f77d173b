use Rattle.reader.proofs.BytesLaws.{SoFar}
use Rattle.reader.proofs.read_bytes.Given as goal

abbrev pub invariant-loop-i : goal.invariant-loop-i
invariant-loop-i l = SoFar l.known l.lore.entries l.bytes l.i l.c l.names l.values
