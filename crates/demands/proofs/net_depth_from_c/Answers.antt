-- What the call promises meets the demands (proofs/CallLaws.antt). Assumes nothing.
use Rattle.demands.proofs.CallLaws.{depth_from_c}
use Rattle.demands.proofs.net_depth_from_c.Goals as goal

pub returns : goal.returns
returns c = search depth_from_c
