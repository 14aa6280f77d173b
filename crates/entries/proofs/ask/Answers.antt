-- By the test: each way is a clause of `unless`. Assumes nothing.
use Rattle.entries.specs.Tests.{first_fault}
use Rattle.entries.proofs.ask.Goals as goal

pub returns-then-holds : goal.returns-then-holds
unfolding first_fault
returns-then-holds c = rw c.if-holds.true

pub returns-else-holds : goal.returns-else-holds
unfolding first_fault
returns-else-holds c = rw c.if-holds.false
