-- The fields' fault stays; without one the ascent is tested, at the body's width. Assumes nothing.
use Rattle.entries.specs.Entries.{entry_tests}
use Rattle.entries.proofs.OrderLaws.{passed_on, first_stays, first_passes}
use Rattle.entries.proofs.test_entry.Goals as goal

pub returns-in_err-test_fields : goal.returns-in_err-test_fields
unfolding entry_tests
returns-in_err-test_fields c =
    rw (passed_on c.from_residual.result c.from_residual.ensures.1) (first_stays _ _ c.test_fields.ensures c.in_err-test_fields.was)

pub returns : goal.returns
unfolding entry_tests
returns c =
    first_passes _ _ c.test_fields.ensures c.in_ok-test_fields.was (rw (← c.width.ensures, ← c.ascends.ensures) c.ask.ensures)
