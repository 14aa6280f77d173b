use mathlib.Core.Path.{◌≡◌}
use Rattle.entries.specs.Tests.{first_fault}
use Rattle.entries.proofs.BodyLaws.{rest_from}
use Rattle.entries.proofs.test_body.Given as goal

abbrev pub invariant-loop-k : goal.invariant-loop-k
invariant-loop-k l =
    first_fault (rest_from l.body l.s l.file l.first l.count 0) ≡ first_fault (rest_from l.body l.s l.file l.first l.count l.k)
