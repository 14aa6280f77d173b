-- What the call promises meets the demands (proofs/CallLaws.antt). Assumes nothing.
use Rattle.demands.proofs.CallLaws.{join-from-c}
use Rattle.demands.proofs.join_from_c.Goals as goal

pub returns : goal.returns
returns c = search join-from-c
