-- What the call promises meets the demands (proofs/CallLaws.antt). Assumes nothing.
use Rattle.demands.proofs.CallLaws.{fragment_meets}
use Rattle.demands.proofs.fragment.Goals as goal

pub returns : goal.returns
returns c = search fragment_meets
