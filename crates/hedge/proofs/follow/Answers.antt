-- Where the left word is empty, the first rows of the right relation are the composition (UnitLaws); else it is composed. Assumes
-- nothing.
use Rattle.hedge.proofs.LoopLaws.{turns}
use Rattle.hedge.proofs.follow.Goals as goal

pub returns-then-left-empty : goal.returns-then-left-empty
returns-then-left-empty c = search turns
