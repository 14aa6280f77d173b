-- The first fault of the whole body is that of the entries left, k entries on: an entry's fault stays, and without one the next
-- entry decides. Each entry fits into the file, since all do. Assumes nothing.
use Rattle.std.proofs.Common.{refl, ◌∙◌, sym, rules}
use Rattle.entries.specs.Entries.{width}
use Rattle.entries.proofs.OrderLaws.{passed_on, part_stays, part_passes}
use Rattle.entries.proofs.BodyLaws.{behind_first, body_all, body_end, body_next, room_next}
use Rattle.entries.proofs.test_body.Goals as goal

pub loop-k-init : goal.loop-k-init
loop-k-init c = refl

pub overflow_mul-wide : goal.overflow_mul-wide
overflow_mul-wide c =
    let room = room_next _ _ _ _ _ c.requires c.loop-k-test.true in
    rw c.width-wide.ensures (search rules)

pub overflow_add-first : goal.overflow_add-first
overflow_add-first c =
    let room = room_next _ _ _ _ _ c.requires c.loop-k-test.true in
    rw c.width-wide.ensures (search rules)

pub test_entry-requires : goal.test_entry-requires
test_entry-requires c =
    let room = room_next _ _ _ _ _ c.requires c.loop-k-test.true in
    rw c.width-wide.ensures (behind_first (width c.args.body) c.args.first c.loop-k.k, room)

pub returns-in_err-test_entry : goal.returns-in_err-test_entry
returns-in_err-test_entry c =
    passed_on c.from_residual.result c.from_residual.ensures.1
    ∙ part_stays _ _ (body_next c.args.body c.args.s c.args.file.now c.args.first c.args.count c.loop-k.k c.loop-k-test.true) c.loop-k.invariant
    (rw c.width-wide.ensures at c.test_entry.ensures) c.in_err-test_entry.was
    ∙ body_all c.args.body c.args.s c.args.file.now c.args.first c.args.count

pub loop-k-preserved : goal.loop-k-preserved
loop-k-preserved c =
    part_passes _ _ (body_next c.args.body c.args.s c.args.file.now c.args.first c.args.count c.loop-k.k c.loop-k-test.true) c.loop-k.invariant
    (rw c.width-wide.ensures at c.test_entry.ensures) c.in_ok-test_entry.was

pub returns : goal.returns
returns c =
    body_end c.args.body c.args.s c.args.file.now c.args.first c.args.count c.loop-k.k c.loop-k-test.false
    ∙ sym c.loop-k.invariant ∙ body_all c.args.body c.args.s c.args.file.now c.args.first c.args.count
