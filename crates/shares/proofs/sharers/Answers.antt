-- After h turns the marks are those of the useful rules below h with the right side of rule i (GatherLaws). Assumes nothing.
use borrow.Author.Rules.{rules}
use Rattle.shares.proofs.GatherLaws.{gathered_more, left_small, sharing}
use Rattle.shares.proofs.sharers.Goals as goal
use Rattle.shares.proofs.sharers.Goals.{then-is_sharer+else-h-i, else-is_sharer}

pub returns-then-not-useful_rule : goal.returns-then-not-useful_rule
returns-then-not-useful_rule c = search sharing

pub loop-h-init : goal.loop-h-init
loop-h-init c = search sharing

pub returns-then-h-i : goal.returns-then-h-i
returns-then-h-i c = search sharing

pub loop-h-preserved : goal.loop-h-preserved
loop-h-preserved c =
    elim c.if-is_sharer.branch [
      | then-is_sharer+else-h-i w ↦
          rw w.marks-is
          (gathered_more _ _ _ _ c.loop-h.invariant _ c.is_sharer.ensures _ _ w.if-is_sharer.true w.if-h-i.false w.field.ensures.0
          (search (left_small, rules)) w.mark-marks.ensures)
      | else-is_sharer w ↦ rw w.marks-is (search sharing)
    ]

pub returns : goal.returns
returns c = search sharing
