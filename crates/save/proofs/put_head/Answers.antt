-- The numbers, then six numbers of 16 bits, each behind the one before it; `head_laid` puts the stores together. Assumes nothing.
use Rattle.save.proofs.LayLaws.{head_laid}
use Rattle.save.proofs.put_head.Goals as goal

pub returns : goal.returns
returns c = search head_laid
