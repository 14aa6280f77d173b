-- After i turns the table has the marks of the rules below i (GatherLaws). Assumes nothing.
use Rattle.shares.proofs.GatherLaws.{sharing}
use Rattle.shares.proofs.share.Goals as goal

pub loop-i-init : goal.loop-i-init
loop-i-init c = search sharing

pub loop-i-preserved : goal.loop-i-preserved
loop-i-preserved c = search sharing

pub returns : goal.returns
returns c = search sharing
