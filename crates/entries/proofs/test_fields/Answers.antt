-- By the body: its function has the tests, and an ending state is one test. The room that is asked is the body's width.
-- Assumes nothing.
use native.Mathlib.Omega.{arith}
use Rattle.entries.specs.Entries.{width, field_tests}
use Rattle.entries.proofs.test_fields.Goals as goal

pub test_rule-requires : goal.test_rule-requires
unfolding width
test_rule-requires c = rw c.in-Templates.is at c.requires

pub test_schema_rule-requires : goal.test_schema_rule-requires
unfolding width
test_schema_rule-requires c = rw c.in-Schema.is at c.requires

pub bounds-file-at : goal.bounds-file-at
unfolding width
bounds-file-at c =
    let room = rw c.in-Endings.is at c.requires in
    omega (arith, room)

pub returns-in-Templates : goal.returns-in-Templates
returns-in-Templates c = rw c.in-Templates.is c.test_rule.ensures

pub returns-in-Schema : goal.returns-in-Schema
returns-in-Schema c = rw c.in-Schema.is c.test_schema_rule.ensures

pub returns-in-Endings : goal.returns-in-Endings
unfolding field_tests
returns-in-Endings c = rw c.in-Endings.is c.ask.ensures
