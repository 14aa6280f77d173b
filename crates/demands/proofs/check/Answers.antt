-- What the call promises meets the demands (proofs/CallLaws.antt). Assumes nothing.
use Rattle.demands.proofs.CallLaws.{check_meets}
use Rattle.demands.proofs.check.Goals as goal

pub returns : goal.returns
returns c = search check_meets
