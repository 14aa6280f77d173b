-- Zeros over the first entries are the row of a refusal's summary (LentLaws). Assumes nothing.
use Rattle.ujthanor.proofs.LentLaws.{put-zeros}
use Rattle.ujthanor.proofs.put_zeros.Goals as goal

pub returns : goal.returns
returns c = put-zeros _ _ c.clear.ensures
