use mathlib.Core.Path.{◌≡◌}
use Rattle.hedge.specs.Schema.{most_states}
use Rattle.lore.specs.Lore.{joined}
use Rattle.lore.proofs.joined.Given as goal

abbrev pub invariant-loop-y : goal.invariant-loop-y
invariant-loop-y l = l.r ≡ joined most_states l.lore l.name l.inner l.y
