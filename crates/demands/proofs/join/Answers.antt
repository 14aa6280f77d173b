-- What the call promises meets the demands (proofs/CallLaws.antt). Assumes nothing.
use Rattle.demands.proofs.CallLaws.{join_meets}
use Rattle.demands.proofs.join.Goals as goal

pub returns : goal.returns
returns c = search join_meets
