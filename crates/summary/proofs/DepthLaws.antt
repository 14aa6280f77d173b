-- A reply that holds no net depth has depth 0: it is any of the reply's cases but the first. Assumes nothing.
use mathlib.Core.Path.{◌≡◌, refl}
use lib.IntN.{ℤ, pos}
use Rattle.std.specs.Prelude.{Result, Ok, Err}
use Rattle.summary.specs.declared.DepthRefusal.{DepthRefusal}
use Rattle.summary.specs.declared.DepthRefusal.TheVariants.{BadFile, NoSummary}
use Rattle.summary.specs.Answers.{net_depth}

pub no_depth : (r : Result ℤ DepthRefusal) → ((z : ℤ) → r ≡ Ok z → ⊥) → pos 0 ≡ net_depth r
no_depth (Ok z) k = absurd (k z refl)
no_depth (Err (BadFile p)) k = refl
no_depth (Err NoSummary) k = refl
