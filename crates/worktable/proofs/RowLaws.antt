-- A row, and the nonterminal, form and last piece that it packs (specs/Packed.antt). Its summary is what unpacking reads, so a row has
-- one nonterminal, form and last piece; and these have one row, since a form has one way to stand in the arrays. Assumes nothing.
use mathlib.Core.Path.{◌≡◌, sym, ap, ◌∙◌}
use mathlib.Core.List.{List}
use Prim.Native.Nat.{ℕ, ◌+◌, ◌*◌, ◌/◌, ◌<◌}
use native.Mathlib.Omega.{arith}
use lib.ListN.{length, get_or, set}
use Rattle.words.specs.Reduced.{Stack}
use Rattle.pieces.specs.declared.Piece.{Piece}
use Rattle.form.specs.Held.{form_of, last_of, Holds}
use Rattle.form.proofs.PackLaws.{pack_unique}
use Rattle.form.specs.declared.Summary.{Summary}
use Rattle.worktable.specs.Packed.{row_width, packed, nonterminal_in, summary_in, RowOf}
use Rattle.worktable.proofs.PackedLaws.{packed_length, packed_nonterminal, packed_summary}

module _ (row : List ℕ) (x : ℕ) (form : Stack Piece) (last : Piece) (r : RowOf row x form last) where
  pub row_length : length row ≡ row_width
  row_length = ap length r.row_is ∙ packed_length x r.summary

  pub row_nonterminal : nonterminal_in row ≡ x
  row_nonterminal = ap (λ (l : List ℕ). nonterminal_in l) r.row_is ∙ packed_nonterminal x r.summary r.small

  -- what unpacking reads
  pub row_summary : summary_in row ≡ r.summary
  row_summary = ap (λ (l : List ℕ). summary_in l) r.row_is ∙ packed_summary x r.summary r.bytes r.small r.holds

  pub row_holds : Holds (summary_in row)
  row_holds = rw row_summary r.holds

  pub row_form : form_of (summary_in row) ≡ form
  row_form = ap form_of row_summary ∙ r.form_is

  pub row_last : last_of (summary_in row) ≡ last
  row_last = ap last_of row_summary ∙ r.last_is

-- ---- a row of another nonterminal with the same form

first_renamed : (x y ends starts : ℕ) → y < 256 → (y + 256 * ends + 65536 * starts) / 256 * 256 + x ≡ x + 256 * ends + 65536 * starts
first_renamed x y ends starts h = omega arith

packed_renamed : (x y : ℕ) (s : Summary) → y < 256 → set (packed y s) 0 (get_or (packed y s) 0 0 / 256 * 256 + x) ≡ packed x s
unfolding packed
packed_renamed x y s h = rw (first_renamed x y s.counts.ends s.counts.starts h)

pub row_renamed : (row : List ℕ) (x y : ℕ) (form : Stack Piece) (last : Piece) → x < 256 → RowOf row y form last
    → RowOf (set row 0 (get_or row 0 0 / 256 * 256 + x)) x form last
row_renamed row x y form last h r =
    record {
      summary = r.summary;
      bytes = r.bytes;
      small = h;
      holds = r.holds;
      row_is = rw r.row_is (packed_renamed x y r.summary r.small);
      form_is = r.form_is;
      last_is = r.last_is;
    }

-- ---- one row has one form

pub row_pair : (row : List ℕ) (x x' : ℕ) (form form' : Stack Piece) (last last' : Piece) → RowOf row x form last → RowOf row x' form' last'
    → (x ≡ x') × (form ≡ form') × (last ≡ last')
row_pair row x x' form form' last last' r r' = (
  sym (row_nonterminal row x form last r) ∙ row_nonterminal row x' form' last' r',
  sym (row_form row x form last r) ∙ row_form row x' form' last' r',
  sym (row_last row x form last r) ∙ row_last row x' form' last' r',
)

-- ---- one form has one row

pub pair_row : (row row' : List ℕ) (x : ℕ) (form : Stack Piece) (last : Piece) → RowOf row x form last → RowOf row' x form last → row ≡ row'
pair_row row row' x form last r r' =
    r.row_is
    ∙ ap (packed x) (pack_unique r.summary r'.summary r.holds r'.holds (r.form_is ∙ sym r'.form_is) (r.last_is ∙ sym r'.last_is))
    ∙ sym r'.row_is
