-- The tag goes behind no others, with the empty word's piece before and after it (LoadLaws). Assumes nothing.
use Rattle.pairs.proofs.LoadLaws.{loads}
use Rattle.pairs.proofs.load_tag.Goals as goal

pub returns-in-Start : goal.returns-in-Start
returns-in-Start c = search loads

pub returns-in-End : goal.returns-in-End
returns-in-End c = search loads
