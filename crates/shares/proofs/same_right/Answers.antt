-- Three bytes are the same where each is (GatherLaws). Assumes nothing.
use Rattle.shares.proofs.GatherLaws.{right_told}
use Rattle.shares.proofs.same_right.Goals as goal

pub returns : goal.returns
returns c = right_told _ _ _ c.requires.0 c.requires.1 _ c.eq.ensures
