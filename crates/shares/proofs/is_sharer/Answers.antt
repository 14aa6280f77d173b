-- By the right sides first, then by whether the rule is useful (GatherLaws). Assumes nothing.
use borrow.Author.Rules.{rules}
use Rattle.shares.proofs.GatherLaws.{sharer_differs, sharer_told}
use Rattle.shares.proofs.is_sharer.Goals as goal

pub returns-then-not-same_right : goal.returns-then-not-same_right
returns-then-not-same_right c = sharer_differs _ _ _ _ c.same_right.ensures (search rules)

pub returns : goal.returns
returns c = sharer_told _ _ _ _ c.same_right.ensures _ c.useful_rule.ensures (search rules)
