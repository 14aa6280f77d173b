-- Where the part lies within the file, what `get` finds is the part; else both are empty. Assumes nothing.
use Rattle.std.proofs.Common.{refl}
use Rattle.template.proofs.PartLaws.{part_got}
use Rattle.template.proofs.part.Goals as goal

pub returns : goal.returns
returns c = rw c.unwrap_or.ensures (part_got c.args.file.now c.args.at c.args.len _ refl c.get.result c.get.ensures.lookup.0)
