-- The turn at y joins what goes through y to what goes through the states below it; both relations have been moved down by y states.
-- Assumes nothing.
use Rattle.hedge.proofs.LoopLaws.{turns}
use Rattle.hedge.proofs.compose.Goals as goal

pub loop-init : goal.loop-init
loop-init c = search turns

pub loop-preserved : goal.loop-preserved
loop-preserved c = search turns

pub returns : goal.returns
returns c = search turns
