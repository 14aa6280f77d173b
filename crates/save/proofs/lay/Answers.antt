-- The head, then each body in the part from its offset on, which is where all before it ends; `file_laid` puts the three parts back
-- together. Assumes nothing.
use Rattle.save.proofs.LayLaws.{file_laid}
use Rattle.save.proofs.lay.Goals as goal

pub returns : goal.returns
returns c = search file_laid
