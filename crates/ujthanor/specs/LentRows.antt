-- A summary as a lent row, in the layout of a worktable row with nonterminal part 0. Rules, section 10: one entry for the counts, two for
-- the names of the tags, 17 for the relations, and one for their counts of outermost elements.
use Rattle.std.specs.Prelude.{◌≡◌, List, ◌++◌, ℕ, suc, length, drop, replicate}
use Rattle.pieces.specs.Pieces.{most_tags, pieces_long}
use Rattle.form.specs.declared.Summary.{Summary}
use Rattle.worktable.specs.Packed.{row_width, packed, nonterminal_in, above_in, summary_in}

-- ---- lent to be written

-- what a lent row holds after a summary was written: entries past the row's width never change
abbrev pub written : List ℕ → Summary → List ℕ
written row s = packed 0 s ++ drop row_width row

-- ---- lent to be read

-- of the width, without a nonterminal, and with nothing above the counts of its last entry, which no place uses
abbrev pub IsRow : List ℕ → Type 0
IsRow row = (length row ≡ row_width) × (nonterminal_in row ≡ 0) × (above_in row ≡ 0)

-- a struct of more tags than a summary may have: no summary under any file
abbrev pub no_summary : Summary
no_summary =
    record { counts = record { ends = suc most_tags; starts = 0 }; names = replicate most_tags 0; values = replicate pieces_long 0 }

-- the struct that a lent row stands for: what it shows, or no summary where it is no such row
pub record StandsFor (row : List ℕ) (s : Summary) : Type 0 where
  pub row_shows : IsRow row → s ≡ summary_in row
  pub else_none : (IsRow row → ⊥) → s ≡ no_summary
