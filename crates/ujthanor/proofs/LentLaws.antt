-- A summary's row put over the first entries of a lent row (specs/LentRows.antt), on variables: what is put at the front replaces as many
-- entries as it has. Assumes nothing.
use mathlib.Core.Path.{◌≡◌, ap, ◌∙◌}
use mathlib.Core.List.{List, [], ◌∷◌, ◌++◌, append-nil}
use Prim.Native.Nat.{ℕ}
use lib.ListN.{length, drop}
use Rattle.pieces.specs.Pieces.{piece_at}
use Rattle.form.specs.declared.Summary.{Summary}
use Rattle.rows.specs.Tables.{rows_of, table_of, flat, cleared}
use Rattle.worktable.specs.Packed.{row_width, numbers_from, digits_in, packed}
use Rattle.summary.specs.Packing.{zeros}
use Rattle.ujthanor.specs.LentRows.{written}

front : (t row : List ℕ) → table_of (rows_of (length row) 0 t ++ (row ∷ [])) t ≡ row ++ drop (length row) t
unfolding rows_of table_of flat
front t row = rw (append-nil row)

pub put_first : (s : Summary) (t row t' : List ℕ) → length row ≡ row_width → row ≡ packed 0 s
    → t' ≡ table_of (rows_of (length row) 0 t ++ (row ∷ [])) t
    → t' ≡ written t s
put_first s t row t' long packs e =
    e ∙ front t row ∙ ap (λ (n : ℕ). row ++ drop n t) long ∙ ap (λ (r : List ℕ). r ++ drop row_width t) packs

-- zeros over the first entries are the row of a refusal's summary
pub put-zeros : (t t' : List ℕ) → t' ≡ cleared t 0 row_width → t' ≡ written t zeros
unfolding cleared packed numbers_from digits_in piece_at zeros
put-zeros t t' e = e
