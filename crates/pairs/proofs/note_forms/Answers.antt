-- Before x the forms of the marked nonterminals below it are noted, there are at most 256 rows, and the row packs some nonterminal with the
-- form; a turn passes x over, or makes the row that of x and notes it, and where no mark is left the rest is passed over (FormsLaws). Assumes
-- nothing.
use Rattle.form.specs.Held.{tag_count}
use Rattle.form.proofs.HeldLaws.{tags_held}
use Rattle.pairs.proofs.FormsLaws.{forms_laws, forms_next}
use Rattle.pairs.proofs.note_forms.Goals as goal
use Rattle.pairs.proofs.note_forms.Goals.{then-rest-eq1, else-rest-eq1}

pub returns-then-found : goal.returns-then-found
returns-then-found c = c.noted_crowded.ensures _ _ (tags_held c.args.c.ends (tag_count c.args.c) c.args.names.now c.args.values.now)

pub loop-x-init : goal.loop-x-init
loop-x-init c = search forms_laws

pub returns-then-rest-eq0 : goal.returns-then-rest-eq0
returns-then-rest-eq0 c = search forms_laws

pub loop-x-preserved : goal.loop-x-preserved
loop-x-preserved c =
    elim c.if-rest-eq1.branch [
      | then-rest-eq1 w ↦
          let packs = w.put_nonterminal.ensures _ _ _ c.loop-x.invariant.packs.1 in
          let told = w.note_form-tally.ensures _ (tags_held c.args.c.ends (tag_count c.args.c) c.args.names.now c.args.values.now) packs in
          rw (w.table-is, w.tally-is, w.row-is)
          record {
            room = search forms_laws;
            same_length = search forms_laws;
            packs = (c.loop-x.x, packs);
            noted = search (forms_next, c.loop-x.invariant.noted, w.if-rest-eq1.true, told);
          }
      | else-rest-eq1 w ↦ rw (w.table-is, w.tally-is, w.row-is) (search forms_laws)
    ]
