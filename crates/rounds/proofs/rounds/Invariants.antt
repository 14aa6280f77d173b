use Rattle.rounds.proofs.StateLaws.{AfterRound}
use Rattle.rounds.proofs.rounds.Given as goal

abbrev pub invariant-loop-r : goal.invariant-loop-r
invariant-loop-r l = AfterRound l.sound.file.now l.lore.entries l.fn.table l.table l.r l.prev l.n
