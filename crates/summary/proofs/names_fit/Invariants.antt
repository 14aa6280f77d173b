use mathlib.Core.Path.{◌≡◌}
use mathlib.Core.Bool.{true}
use Rattle.summary.specs.Packing.{every, name_fits}
use Rattle.summary.proofs.names_fit.Given as goal

abbrev pub invariant-loop-k : goal.invariant-loop-k
invariant-loop-k l = every l.k (name_fits l.known l.n l.names) ≡ true
