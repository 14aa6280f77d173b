-- What the call promises meets the demands (proofs/CallLaws.antt). Assumes nothing.
use Rattle.demands.proofs.CallLaws.{depth_meets}
use Rattle.demands.proofs.net_depth.Goals as goal

pub returns : goal.returns
returns c = search depth_meets
