-- The first fault of all tests is that of those left: one that fails leaves with its fault, and behind one that holds the next decides.
-- Assumes nothing.
use Rattle.std.proofs.Common.{◌+◌, ◌∙◌, sym, drop, add-one}
use Rattle.std.proofs.Math.Seq.{drop-cons}
use lib.ListN.{drop_of_length-le}
use Rattle.entries.proofs.OrderLaws.{passed_on, part_stays, part_passes, first_none}
use Rattle.entries.proofs.first_fault.Goals as goal

pub returns-in_err-ask : goal.returns-in_err-ask
returns-in_err-ask c =
    passed_on c.from_residual.result c.from_residual.ensures.1
    ∙ part_stays _ (drop (c.loop-t.t-index + 1) c.args.tests.now) (rw add-one (drop-cons c.args.tests.now c.loop-t.t-index _ c.loop-t-test.true)) c.loop-t.invariant c.ask.ensures c.in_err-ask.was

pub loop-t-preserved : goal.loop-t-preserved
loop-t-preserved c =
    part_passes _ _ (rw add-one (drop-cons c.args.tests.now c.loop-t.t-index _ c.loop-t-test.true)) c.loop-t.invariant c.ask.ensures c.in_ok-ask.was

pub returns : goal.returns
returns c = sym (c.loop-t.invariant ∙ rw (drop_of_length-le c.args.tests.now c.loop-t-test.false) (sym first_none))
