use mathlib.Core.Path.{◌≡◌}
use Prim.Native.Nat.{◌-◌}
use Rattle.line.specs.Decimal.{digits}
use Rattle.line.specs.Lines.{over_from}
use Rattle.line.proofs.put_digits.Given as goal

abbrev pub invariant-loop-i : goal.invariant-loop-i
invariant-loop-i l = over_from l.at (digits (l.i - l.at) l.rest) l.out ≡ over_from l.at (digits l.k l.n) l.initial.out
