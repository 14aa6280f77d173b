-- What all reads gave, of the reader's bytes, where those are known: all of them, or as many as decide the line. Which bytes standard input
-- gives, no contract can say.
use Rattle.std.specs.Prelude.{◌≡◌, ℕ, List, take, Option, Result, IfSome, IfOk}
use Rattle.line.specs.Lines.{room}
use Rattle.setcheck.specs.declared.Failure.{Failure}

abbrev pub ReadFrom : Result ℕ Failure → Option (List ℕ) → List ℕ → Type 0
ReadFrom result old buffer = IfOk result (λ n. IfSome old (λ xs. take n buffer ≡ take room xs))
