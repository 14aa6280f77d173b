-- What the call promises meets the demands (proofs/CallLaws.antt). Assumes nothing.
use Rattle.demands.proofs.CallLaws.{check-from-c}
use Rattle.demands.proofs.check_from_c.Goals as goal

pub returns : goal.returns
returns c = search check-from-c
