use mathlib.Core.Path.{◌≡◌}
use Prim.Native.Nat.{◌-◌, ◌≤◌}
use Rattle.walk.specs.News.{news}
use Rattle.walk.proofs.news.Given as goal

abbrev pub invariant-loop-k : goal.invariant-loop-k
invariant-loop-k l = record { within : l.k - l.a ≤ l.e - l.a; marked : l.marks ≡ news l.table l.a l.k }
