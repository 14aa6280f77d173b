-- The tests are those of the definition: the numbers in them are the shape's and those at their places in the file. Assumes nothing.
use Rattle.template.specs.Order.{contents_tests}
use Rattle.template.proofs.test_contents.Goals as goal

pub returns : goal.returns
unfolding contents_tests
returns c =
    rw (c.first_fault.ensures, c.at.ensures, c.at-2.ensures, c.at-3.ensures, c.at-4.ensures, c.at-5.ensures, c.at-6.ensures, c.at-7.ensures)
    (rw (c.from-3.ensures, c.from-4.ensures, c.from-5.ensures, c.from-6.ensures, c.from-7.ensures, c.from-8.ensures)
    (rw (c.half.ensures, c.half-2.ensures, c.half-3.ensures, c.from.ensures, c.from-2.ensures, c.rules_bytes-second.ensures.0, c.shape_of-s.ensures)))
