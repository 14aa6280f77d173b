-- A short file fails the first test. Else that one holds, and those of bytes 0 to 3 decide, each byte by its number. Assumes nothing.
use borrow.Author.Tests.{lt-leb, le-leb}
use Rattle.entries.specs.Tests.{first_fault}
use Rattle.template.specs.Order.{head_tests}
use Rattle.template.proofs.test_head.Goals as goal

pub returns-then-file-lt-FIRST_BODY : goal.returns-then-file-lt-FIRST_BODY
unfolding head_tests first_fault
returns-then-file-lt-FIRST_BODY c = rw (lt-leb _ _ c.if-file-lt-FIRST_BODY.true)

pub returns : goal.returns
unfolding head_tests first_fault
returns c =
    rw (c.first_fault.ensures, c.at.ensures, c.at-2.ensures, c.at-3.ensures, c.at-4.ensures)
    (rw (c.is_some_of.ensures, c.is_some_of-2.ensures, c.is_some_of-3.ensures, le-leb _ _ c.if-file-lt-FIRST_BODY.false))
