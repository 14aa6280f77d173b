-- The left side is below 64, and its mark tells; those of the right side tell of it (GatherLaws). Assumes nothing.
use Rattle.shares.proofs.GatherLaws.{sharing}
use Rattle.shares.proofs.useful_rule.Goals as goal

pub returns : goal.returns
returns c = search sharing
