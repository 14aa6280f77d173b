-- What the call promises meets the demands (proofs/CallLaws.antt). Assumes nothing.
use Rattle.demands.proofs.CallLaws.{page_meets}
use Rattle.demands.proofs.page.Goals as goal

pub returns : goal.returns
returns c = search page_meets
