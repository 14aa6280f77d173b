-- What the call promises meets the demands (proofs/CallLaws.antt). Assumes nothing.
use Rattle.demands.proofs.CallLaws.{fragment-from-c}
use Rattle.demands.proofs.fragment_from_c.Goals as goal

pub returns : goal.returns
returns c = search fragment-from-c
