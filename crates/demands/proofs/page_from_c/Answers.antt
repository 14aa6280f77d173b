-- What the call promises meets the demands (proofs/CallLaws.antt). Assumes nothing.
use Rattle.demands.proofs.CallLaws.{page-from-c}
use Rattle.demands.proofs.page_from_c.Goals as goal

pub returns : goal.returns
returns c = search page-from-c
