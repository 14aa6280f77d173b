-- The two bytes stand over the part of two bytes that is copied to (`half_laid`). Assumes nothing.
use Rattle.std.proofs.Common.{arith, ◌∙◌}
use Rattle.save.proofs.LayLaws.{half_laid}
use Rattle.save.proofs.put_half.Goals as goal

pub returns : goal.returns
returns c =
    half_laid c.args.at _ c.args.n c.args.out.now _ c.requires (omega arith) (omega arith)
    (c.copy_from_slice.ensures.after ∙ c.to_le_bytes.ensures)
