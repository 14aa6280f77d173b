-- The packed row goes over the first 21 entries (LentLaws). Assumes nothing.
use Rattle.std.proofs.Common.{rules}
use Rattle.ujthanor.proofs.LentLaws.{put_first}
use Rattle.ujthanor.proofs.put_summary.Goals as goal

pub returns : goal.returns
returns c = search (put_first, rules)
