-- A test that fails leaves with its fault; behind those that hold the next decides. Assumes nothing.
use Rattle.entries.specs.Entries.{field_tests}
use Rattle.entries.proofs.OrderLaws.{passed_on, first_stays, first_passes}
use Rattle.entries.proofs.test_schema_rule.Goals as goal

pub returns-in_err-ask : goal.returns-in_err-ask
unfolding field_tests
returns-in_err-ask c = rw (passed_on c.from_residual.result c.from_residual.ensures.1) (first_stays _ _ c.ask.ensures c.in_err-ask.was)

pub returns-in_err-ask-2 : goal.returns-in_err-ask-2
unfolding field_tests
returns-in_err-ask-2 c =
    rw (passed_on c.from_residual-in_err-ask-2.result c.from_residual-in_err-ask-2.ensures.1)
    (first_passes _ _ c.ask.ensures c.in_ok-ask.was (first_stays _ _ c.ask-2.ensures c.in_err-ask-2.was))

pub returns-in_err-ask-3 : goal.returns-in_err-ask-3
unfolding field_tests
returns-in_err-ask-3 c =
    rw (passed_on c.from_residual-in_err-ask-3.result c.from_residual-in_err-ask-3.ensures.1)
    (first_passes _ _ c.ask.ensures c.in_ok-ask.was
    (first_passes _ _ c.ask-2.ensures c.in_ok-ask-2.was (first_stays _ _ c.ask-3.ensures c.in_err-ask-3.was)))

pub returns : goal.returns
unfolding field_tests
returns c =
    first_passes _ _ c.ask.ensures c.in_ok-ask.was
    (first_passes _ _ c.ask-2.ensures c.in_ok-ask-2.was
    (first_passes _ _ c.ask-3.ensures c.in_ok-ask-3.was c.ask-4.ensures))
