use Rattle.hedge.specs.Schema.{most_states}
use Rattle.lore.specs.Lore.{Masks, Leaves}
use Rattle.lore.proofs.teach_rules.Given as goal

abbrev pub invariant-loop-i : goal.invariant-loop-i
invariant-loop-i l = Masks most_states l.rules l.i l.lore × Leaves most_states l.marks l.empty l.rules l.i l.lore
