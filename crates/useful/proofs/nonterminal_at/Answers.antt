-- Each way through the three tests is a case of the definition (SlotLaws). Assumes nothing.
use Rattle.useful.proofs.CloseLaws.{passes}
use Rattle.useful.proofs.nonterminal_at.Goals as goal
use Rattle.useful.proofs.nonterminal_at.Goals.{else-used-via-then-used+then-byte-ge64+else-byte-lt128, else-used-via-then-used+else-byte-ge64}
use Rattle.useful.proofs.nonterminal_at.Goals.{else-used-via-else-used}

pub returns-then-byte-lt128-clause-value : goal.returns-then-byte-lt128-clause-value
returns-then-byte-lt128-clause-value c = search passes

pub returns-else-used-clause-value : goal.returns-else-used-clause-value
returns-else-used-clause-value c =
    elim c.else-used.branch [
      | else-used-via-then-used+then-byte-ge64+else-byte-lt128 w ↦ search passes
      | else-used-via-then-used+else-byte-ge64 w ↦ search passes
      | else-used-via-else-used w ↦ search passes
    ]
