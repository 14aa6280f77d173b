-- A struct that was tested with a sound file's numbers was tested under the file. The premises are the facts that the code has of what it
-- read. Assumes nothing.
use mathlib.Core.Path.{◌≡◌, sym, ◌∙◌}
use mathlib.Core.Bool.{Bool, true, false, false≢true, not}
use mathlib.Core.List.{List}
use mathlib.Core.Logic.{◌↔◌}
use Prim.Native.Nat.{ℕ}
use borrow.Author.Tests.{not-true, not-false}
use Rattle.template.specs.Order.{reading}
use Rattle.std.specs.Prelude.{Ok}
use Rattle.template.specs.declared.Shape.{Shape}
use Rattle.template.proofs.ShapeLaws.{names_are, states_are}
use Rattle.form.specs.declared.Summary.{Summary}
use Rattle.summary.specs.Packing.{IsSummary}
use Rattle.summary.specs.Joins.{SummaryUnder}

module _ (f : List ℕ) (shape : Shape) (sound : reading f ≡ Ok shape) (q : ℕ) (h : q ≡ shape.states) where
  -- a struct that was tested
  module _ (s : Summary) (t : Bool) (k : (t ≡ true) ↔ IsSummary shape.names q s) where
    tested : (t ≡ true) ↔ SummaryUnder f s
    tested = rw (states_are f shape sound q h, names_are f shape sound) at k

    pub passed_summary : not t ≡ false → SummaryUnder f s
    passed_summary g = tested.0 (not-false t g)

    pub failed_summary : not t ≡ true → SummaryUnder f s → ⊥
    failed_summary g u = false≢true (sym (not-true t g) ∙ tested.1 u)
