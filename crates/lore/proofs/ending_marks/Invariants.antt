use mathlib.Core.Path.{◌≡◌}
use Rattle.numbers.specs.Bits.{number}
use Rattle.hedge.specs.Schema.{most_states}
use Rattle.lore.specs.Lore.{marked}
use Rattle.lore.proofs.ending_marks.Given as goal

abbrev pub invariant-loop-end : goal.invariant-loop-end
invariant-loop-end l = l.r ≡ number most_states (marked l.ends l.end-index)
