-- Where nothing stands, the arrays hold the empty form (LoadLaws). Assumes nothing.
use Rattle.pairs.proofs.LoadLaws.{loads}
use Rattle.pairs.proofs.load.Goals as goal

pub returns-in-Absent : goal.returns-in-Absent
returns-in-Absent c = search loads
