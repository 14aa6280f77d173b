-- What the call promises meets the demands (proofs/CallLaws.antt). Assumes nothing.
use Rattle.demands.proofs.CallLaws.{split-from-c}
use Rattle.demands.proofs.split_from_c.Goals as goal

pub returns : goal.returns
returns c = search split-from-c
