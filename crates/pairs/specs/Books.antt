-- The check's book: a worktable and how many rows of it are in use. Its rows are those of pairs of a nonterminal and a summary.
use Rattle.std.specs.Prelude.{List, ℕ, ◌<◌}
use Rattle.pieces.specs.declared.Piece.{Piece}
use Rattle.trees.specs.Events.{Pair}
use Rattle.rows.specs.Tables.{row_at}
use Rattle.worktable.specs.Packed.{row_width, PairRow}

pub record Book : Type 0 where
  pub table : List ℕ
  pub rows : ℕ

abbrev pub book_of : List ℕ → ℕ → Book
book_of t n = record { table = t; rows = n }

-- row k of a table
abbrev pub table_row : List ℕ → ℕ → List ℕ
table_row t k = row_at row_width t k

-- the pairs that the book's rows pack
abbrev pub Tabled : Book → Pair Piece → Type 0
Tabled b p = (k : ℕ) × (k < b.rows) × PairRow (table_row b.table k) p
