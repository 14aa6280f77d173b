-- A test that fails leaves with its fault, and behind those that hold the symbols decide. Assumes nothing.
use Rattle.entries.specs.Entries.{field_tests}
use Rattle.entries.proofs.OrderLaws.{passed_on, first_stays, first_passes}
use Rattle.entries.proofs.test_rule.Goals as goal

pub returns-in_err-ask : goal.returns-in_err-ask
unfolding field_tests
returns-in_err-ask c = rw (passed_on c.from_residual.result c.from_residual.ensures.1) (first_stays _ _ c.ask.ensures c.in_err-ask.was)

pub returns-in_err-ask-2 : goal.returns-in_err-ask-2
unfolding field_tests
returns-in_err-ask-2 c =
    rw (passed_on c.from_residual-in_err-ask-2.result c.from_residual-in_err-ask-2.ensures.1)
    (first_passes _ _ c.ask.ensures c.in_ok-ask.was (first_stays _ _ c.ask-2.ensures c.in_err-ask-2.was))

pub returns : goal.returns
unfolding field_tests
returns c =
    first_passes _ _ c.ask.ensures c.in_ok-ask.was (first_passes _ _ c.ask-2.ensures c.in_ok-ask-2.was c.test_symbols.ensures)
