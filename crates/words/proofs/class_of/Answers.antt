-- A byte below 32 is the start tag of its own number, one from 32 to 63 the end tag of 32 less: each is one law of ClassLaws at what the
-- tests before it say. Assumes nothing.
use Rattle.words.proofs.ClassLaws.{classes}
use Rattle.words.proofs.class_of.Goals as goal

pub returns-in-0-to-31 : goal.returns-in-0-to-31
returns-in-0-to-31 c = search classes

pub returns-in-32-to-63 : goal.returns-in-32-to-63
returns-in-32-to-63 c = search classes
