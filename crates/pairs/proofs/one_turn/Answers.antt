-- The two choices are loaded and joined, and the join's answer under the limit is noted (TurnLaws). Facts are named by their places, for
-- there are more of them than a search goes through. Assumes nothing.
use Rattle.pairs.proofs.TurnLaws.{one_turn_laws, zeros_hold, turn_no_left, turn_no_right, turn_form, turn_mismatch, turn_deep}
use Rattle.pairs.proofs.one_turn.Goals as goal

pub returns-then-not-fits : goal.returns-then-not-fits
returns-then-not-fits c = search one_turn_laws

pub load-b-requires-clause-holds : goal.load-b-requires-clause-holds
load-b-requires-clause-holds c = zeros_hold

pub returns-in_default : goal.returns-in_default
returns-in_default c = search (turn_no_right, c.empty-empty.ensures, c.in_default.ensures)

pub load-a-requires-clause-holds : goal.load-a-requires-clause-holds
load-a-requires-clause-holds c = zeros_hold

pub returns-in_default-a : goal.returns-in_default-a
returns-in_default-a c = search (turn_no_left, c.empty-empty.ensures, c.in_default-a.ensures)

pub then_form-t-requires : goal.then_form-t-requires
then_form-t-requires c = record { holds = c.in-Some-a.ensures.0; more_bound = c.in-Some.ensures.0.room }

pub note_forms-requires : goal.note_forms-requires
note_forms-requires c =
    record {
      holds = c.in-Ok.ensures.holds;
      table_long_in_bounds = c.requires.table_long_in_bounds;
      rows_le_most_images = c.requires.rows_le_most_images;
    }

pub returns-in-Ok : goal.returns-in-Ok
returns-in-Ok c =
    search (turn_form, c.empty-empty.ensures, c.in-Some.ensures, c.in-Some-a.ensures, c.in-Ok.ensures, c.note_forms.ensures)

pub returns-in-Err-Mismatch : goal.returns-in-Err-Mismatch
returns-in-Err-Mismatch c =
    let is = rw c.in-Err-Mismatch.is at c.in-Err-Mismatch.field-0-is in
    let told = rw (c.in-Err-Mismatch.is, is) at c.then_form-t.ensures in
    search (turn_mismatch, c.empty-empty.ensures, c.in-Some.ensures, c.in-Some-a.ensures, told)

pub returns-in-Err-TooDeep : goal.returns-in-Err-TooDeep
returns-in-Err-TooDeep c =
    let is = rw c.in-Err-TooDeep.is at c.in-Err-TooDeep.field-0-is in
    let told = rw (c.in-Err-TooDeep.is, is) at c.then_form-t.ensures in
    rw c.noted_deep.ensures (search (turn_deep, c.empty-empty.ensures, c.in-Some.ensures, c.in-Some-a.ensures, told))
