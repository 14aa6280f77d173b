-- What the program writes, at a reader whose bytes and a writer whose contents are known: the line of the whole input, however long that is.
use Rattle.std.specs.Prelude.{◌≡◌, ℕ, List, replicate, ⊤, Option, Result, Ok, Err, IfSome}
use Rattle.std.specs.Io.KnownBytes.{Appends, Keeps}
use Rattle.worktable.specs.Packed.{table_long}
use Rattle.line.specs.Lines.{text_of, Prints}
use Rattle.line.specs.declared.Line.{Line}
use Rattle.setcheck.specs.declared.Failure.{Failure}
use Rattle.setcheck.specs.declared.Failure.TheVariants.{Unread, Unwritten}

-- the line of a file is written behind what the writer held
abbrev pub IsPrinted : List ℕ → Option (List ℕ) → Option (List ℕ) → Type 0
IsPrinted f old new = (l : Line) × (t : List ℕ) × Prints f (replicate table_long 0) l t × Appends old new (text_of l)

-- what came of an input
abbrev pub IsAnswered : Result (Unit {0}) Failure → Option (List ℕ) → Option (List ℕ) → Option (List ℕ) → Type 0
IsAnswered (Ok done) input old new = (f : List ℕ) × IfSome input (λ xs. f ≡ xs) × IsPrinted f old new
IsAnswered (Err Unread) input old new = Keeps old new
IsAnswered (Err Unwritten) input old new = ⊤
