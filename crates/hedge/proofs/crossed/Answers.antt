-- Rows of 0 or 1 times a row; the product has its bits in the same 64 places, so it fits. Assumes nothing.
use Rattle.hedge.proofs.LoopLaws.{turns}
use Rattle.hedge.proofs.crossed.Goals as goal

pub overflow_mul-result : goal.overflow_mul-result
overflow_mul-result c = search turns

pub returns : goal.returns
returns c = search turns
