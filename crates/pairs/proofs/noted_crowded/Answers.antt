-- Only the start's form changes a note (FormsLaws). Assumes nothing.
use Rattle.pairs.proofs.FormsLaws.{crowded_forms}
use Rattle.pairs.proofs.noted_crowded.Goals as goal

pub returns : goal.returns
returns c form t count =
    rw c.marked.ensures (crowded_forms _ _ form _ t _ c.requires.crowded _ (c.invalid_form.ensures form count) 63)
