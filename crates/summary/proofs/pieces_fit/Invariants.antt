use mathlib.Core.Path.{◌≡◌}
use mathlib.Core.Bool.{true}
use Rattle.summary.specs.Packing.{every, piece_fits}
use Rattle.summary.proofs.pieces_fit.Given as goal

abbrev pub invariant-loop-k : goal.invariant-loop-k
invariant-loop-k l = every l.k (piece_fits l.states l.n l.values) ≡ true
