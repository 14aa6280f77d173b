use mathlib.Core.Path.{◌≡◌}
use Rattle.form.specs.Held.{summary_of, Holds}
use Rattle.form.specs.Steps.{held}
use Rattle.form.proofs.FormLaws.{turned}
use Rattle.form.proofs.then_form.Given as goal

abbrev pub invariant-loop-k : goal.invariant-loop-k
invariant-loop-k l =
    Holds (summary_of l.d l.names l.values)
    × (held (summary_of l.d l.names l.values) ≡ turned l.lore.entries (held (summary_of l.initial.d l.initial.names l.initial.values)) l.closing l.tags l.parts l.k)
