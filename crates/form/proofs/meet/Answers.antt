-- The innermost start stands at the last place. Where its name is another than the end's, the two names are the answer; else both tags
-- go, and the piece that `closed` gives stands for all from the piece before the start on. Each return is a law of TagLaws. Assumes
-- nothing.
use Rattle.form.proofs.TagLaws.{tag_laws}
use Rattle.form.proofs.meet.Goals as goal

pub returns-then-open-name : goal.returns-then-open-name
returns-then-open-name c = search tag_laws

pub returns : goal.returns
returns c = search tag_laws
