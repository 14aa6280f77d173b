-- What is left of both lists decides as the whole lists do: equal bytes go one further, the first that differ decide, and a list at its end precedes
-- nothing. Assumes nothing.
use Rattle.std.proofs.Common.{◌∙◌, sym, inl, inr}
use Rattle.entries.proofs.AscentLaws.{precedes_past_left, precedes_past_right, precedes_same, precedes_differs}
use Rattle.entries.proofs.precedes.Goals as goal

pub returns-then-x-y : goal.returns-then-x-y
returns-then-x-y c = precedes_differs c.in-Some.ensures.steps c.if-x-y.true ∙ sym c.loop-x.invariant

pub loop-x-preserved : goal.loop-x-preserved
loop-x-preserved c = c.loop-x.invariant ∙ precedes_same c.in-Some.ensures.steps c.if-x-y.false

pub returns : goal.returns
returns c =
    elim c.in-None.ensures.steps [
      | inl l ↦ precedes_past_left _ _ l.1.0 ∙ sym c.loop-x.invariant
      | inr r ↦ precedes_past_right _ _ r.1.0 ∙ sym c.loop-x.invariant
    ]
