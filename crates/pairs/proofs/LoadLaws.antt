-- Choices and loading (specs/Turns.antt), in the words in which the functions that deal with them have it, for `search loads`. An empty
-- form, a tag's own form and the form of a row stand in the arrays, and a row of another nonterminal is no choice. Assumes nothing.
use mathlib.Core.Path.{◌≡◌, refl, sym, ap, subst, ◌∙◌}
use mathlib.Core.Bool.{Bool, true, false, false≢true}
use mathlib.Core.List.{List}
use Prim.Native.Nat.{ℕ, ◌+◌}
use native.Mathlib.Omega.{arith}
use lib.Dec.{eqb}
use lib.ListN.{set}
use borrow.Author.Rules.{rules}
use Rattle.std.specs.Prelude.{Some, None}
use borrow.Author.Tests.{eqb-true, eq-eqb}
use Rattle.words.specs.Reduced.{Stack}
use Rattle.words.specs.declared.Tag as class
use Rattle.words.specs.declared.Tag.TheVariants.{Start, End}
use Rattle.pieces.specs.declared.Piece.{Piece}
use Rattle.pieces.specs.Pieces.{piece_at, put_piece, Counted}
use Rattle.pieces.proofs.PieceLaws.{piece_same}
use Rattle.form.specs.Held.{summary_of, form_of, last_of, Holds}
use Rattle.form.specs.declared.Counts.{Counts}
use Rattle.form.specs.declared.Summary.{Summary}
use Rattle.form.proofs.HeldLaws.{stack_none, stack_put_start, stack_put_end}
use Rattle.form.proofs.TagLaws.{holds_put}
use Rattle.form.proofs.TurnLaws.{holds_value}
use Rattle.worktable.specs.Packed.{nonterminal_in, summary_in, RowOf}
use Rattle.worktable.proofs.RowLaws.{row_nonterminal, row_holds, row_form, row_last}
use Rattle.pairs.specs.Books.{table_row}
use Rattle.pairs.specs.Turns.{slot_fits, SomePairRow, TagForm, FormOf, Loads}
use Rattle.pairs.specs.declared.Slot.{Slot}
use Rattle.pairs.specs.declared.Slot.TheVariants.{Absent, Single, Rows}

-- ---- a choice that fits

-- a choice that has a form fits
row_of_fits : (t : List ℕ) (k x : ℕ) (form : Stack Piece) (last : Piece) → RowOf (table_row t k) x form last
    → eqb (nonterminal_in (table_row t k)) x ≡ true
row_of_fits t k x form last r = eq-eqb (nonterminal_in (table_row t k)) x (row_nonterminal (table_row t k) x form last r)

pub form_fits : (empty : Piece) (t : List ℕ) (s : Slot) (k : ℕ) (form : Stack Piece) (last : Piece) → FormOf empty t s k form last
    → slot_fits s k t ≡ true
unfolding slot_fits
form_fits empty t Absent k form last f = refl
form_fits empty t (Single a) k form last f = refl
form_fits empty t (Rows x) k form last f = row_of_fits t k x form last f

-- ---- forms in the arrays

abbrev no_tags : Counts
no_tags = record { ends = 0; starts = 0 }

module _ (names values : List ℕ) (zeros : Holds (summary_of no_tags names values)) (empty : Piece) (few : Counted empty) (first : List ℕ)
    (first-is : first ≡ put_piece values 0 empty) where
  holds_first : Holds (summary_of no_tags names first)
  holds_first = holds_value no_tags empty names values first first-is zeros few

  first_piece : piece_at first 0 ≡ empty
  first_piece = rw first-is (piece_same values 0 empty zeros.values_long (omega arith))

  pub loads_absent : (s : Slot) (t : List ℕ) (k : ℕ) (c : Counts) → s ≡ Absent → c ≡ no_tags
      → Loads (FormOf empty t s k) (Some c) names first
  loads_absent s t k c e d = rw (e, d) (holds_first, (stack_none 0 names first, first_piece))

  module _ (a : ℕ) (tag : class.Tag) (c : Counts) (both : List ℕ) (both_is : both ≡ put_piece first 1 empty) where
    second_piece : piece_at both 1 ≡ empty
    second_piece = rw both_is (piece_same first 1 empty holds_first.values_long (omega arith))

    holds_tag : 1 ≡ c.ends + c.starts → Holds (summary_of c (set names 0 a) both)
    holds_tag one = rw both_is (holds_put (summary_of no_tags names first) c 1 a empty one (omega arith) (omega arith) holds_first few)

    pub loads_end : tag ≡ End a → c ≡ record { ends = 1; starts = 0 } → Loads (TagForm empty tag) (Some c) (set names 0 a) both
    loads_end e d =
        let form = stack_put_end 0 0 1 a empty names first (omega arith) (omega arith) (omega (arith, zeros.names_long)) in (
          holds_tag (rw d (omega arith)),
          (rw (d, e, both_is, form, first_piece, stack_none 0 names first), rw d second_piece),
        )

    pub loads_start : tag ≡ Start a → c ≡ record { ends = 0; starts = 1 } → Loads (TagForm empty tag) (Some c) (set names 0 a) both
    loads_start e d =
        let form = stack_put_start 0 0 1 a empty names first (omega arith) (omega arith) (omega (arith, zeros.names_long)) in (
          holds_tag (rw d (omega arith)),
          (rw (d, e, both_is, form, first_piece, stack_none 0 names first), rw d second_piece),
        )

module _ (t : List ℕ) (k x : ℕ) (fits : Bool) (told : fits ≡ eqb (nonterminal_in (table_row t k)) x) (packs : SomePairRow (table_row t k)) where
  pub loads_row : (c : Counts) (names values read : List ℕ) → fits ≡ true → read ≡ table_row t k
      → summary_of c names values ≡ summary_in read → Loads (RowOf (table_row t k) x) (Some c) names values
  loads_row c names values read f e is =
      let (p, r) = packs in
      let row = table_row t k in
      let of : p.of ≡ x =
      sym (row_nonterminal row p.of p.form p.last r) ∙ eqb-true (nonterminal_in row) x (sym told ∙ f) in
      subst (λ (s : Summary). Holds s × RowOf row x (form_of s) (last_of s))
      (sym (is ∙ ap (λ (l : List ℕ). summary_in l) e)) (
        row_holds row p.of p.form p.last r,
        rw (row_form row p.of p.form p.last r, row_last row p.of p.form p.last r, ← of) r,
      )

  pub loads_nothing : (names values : List ℕ) → fits ≡ false → Loads (RowOf (table_row t k) x) None names values
  loads_nothing names values f form last r =
      false≢true (sym f ∙ told ∙ row_of_fits t k x form last r)

pub ruleset loads = (
  loads_end,
  loads_start,
  loads_absent,
  loads_row,
  loads_nothing,
  rules,
)
