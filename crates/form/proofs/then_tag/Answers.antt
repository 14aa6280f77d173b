-- An end meets the innermost start, where there is one. Every other tag goes behind those that stand, or is one too many. Each return
-- is a law of TagLaws at what the tests before it say. Assumes nothing.
use Rattle.form.proofs.TagLaws.{tag_laws}
use Rattle.form.proofs.TurnLaws.{meets_start}
use Rattle.form.proofs.then_tag.Goals as goal

pub meet-requires : goal.meet-requires
meet-requires c =
    let m = meets_start c.args.c.starts c.args.closes c.if-closes-c.true in
    record { holds = c.requires.holds; starts_nonzero = m.1 }

pub returns-then-closes-c : goal.returns-then-closes-c
returns-then-closes-c c = search tag_laws

pub returns-then-n-ge-TAGS : goal.returns-then-n-ge-TAGS
returns-then-n-ge-TAGS c = search tag_laws

pub returns-then-closes : goal.returns-then-closes
returns-then-closes c = search tag_laws

pub returns : goal.returns
returns c = search tag_laws
