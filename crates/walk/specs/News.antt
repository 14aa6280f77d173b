-- What a round passes over. A slot has a new choice in the first round, and later only where its nonterminal has a row that the round before
-- found; a rule that is walked for no nonterminal has none.
use Rattle.std.specs.Prelude.{Bool, ◌||◌, List, ℕ, zero, suc, ◌+◌, ◌-◌, ◌%◌}
use Rattle.numbers.specs.Bits.{bit}
use Rattle.useful.specs.Marks.{with_mark}
use Rattle.worktable.specs.Packed.{nonterminal_in}
use Rattle.pairs.specs.Books.{table_row}
use Rattle.pairs.specs.declared.Slot.{Slot}
use Rattle.pairs.specs.declared.Slot.TheVariants.{Absent, Single, Rows}

-- the nonterminals of the n rows from the a-th on, as marks
unfoldable pub marks_from : List ℕ → ℕ → ℕ → ℕ
marks_from t a zero = 0
marks_from t a (suc n) = with_mark (marks_from t a n) (nonterminal_in (table_row t (a + n)) % 64)

unfoldable pub news : List ℕ → ℕ → ℕ → ℕ
news t a e = marks_from t a (e - a)

unfoldable pub renews : Slot → ℕ → Bool → Bool
renews Absent fresh first = first
renews (Single a) fresh first = first
renews (Rows x) fresh first = first || bit fresh (x % 64)
