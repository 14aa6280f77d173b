-- What the call promises meets the demands (proofs/CallLaws.antt). Assumes nothing.
use Rattle.demands.proofs.CallLaws.{split_meets}
use Rattle.demands.proofs.split.Goals as goal

pub returns : goal.returns
returns c = search split_meets
