-- What the check leaves in the worktable. On a pass the rows are sorted and zeros follow them: as no row stands twice they ascend, each
-- packs an image and each image has its row. On any other answer of the rounds there are zeros alone. Assumes nothing.
use mathlib.Core.Path.{◌≡◌, sym, subst}
use mathlib.Core.List.{List}
use Prim.Native.Nat.{ℕ, ◌*◌, ◌≤◌}
use native.Mathlib.Omega.{arith}
use lib.ListN.{length, drop}
use Rattle.template.specs.Layout.{template_rules}
use Rattle.rows.specs.Tables.{rows_of, table_of, sorted, cleared}
use Rattle.rows.proofs.TableLaws.{row_member, member_row}
use Rattle.rows.proofs.PutLaws.{sorted_rows_length, sorted_keeps, sorted_only}
use Rattle.rows.proofs.SortLaws.{rows_no_repeats, sorted_ascends}
use Rattle.rows.proofs.ClearLaws.{sorted_cleared, whole_cleared}
use Rattle.worktable.specs.Packed.{row_width, most_images, table_long}
use Rattle.pairs.specs.Books.{book_of, table_row}
use Rattle.walk.specs.Walks.{ProperRows}
use Rattle.rounds.specs.Checks.{PairRow, Rows, after_pass, zeroed}
use Rattle.rounds.proofs.ResultLaws.{Holding}

-- ---- the rows of the images

module _ (f lore t : List ℕ) (n r : ℕ) (proper : ProperRows lore (template_rules f) (book_of t n)) (rows : Holding f (book_of t n) r) where
  pub sorted_rows : Rows f r (sorted (rows_of row_width n t))
  sorted_rows = record {
    ascending = sorted_ascends (rows_of row_width n t) (rows_no_repeats row_width n t proper.different);
    each_image = λ row a.
        let (k, h, e) = member_row row_width row n t (sorted_only (rows_of row_width n t) row a) in
        let (p, b, g) = proper.proper k h in
        (p, (rows p).0 (k, h, b), subst (λ (l : List ℕ). PairRow l p) (sym e) b);
    every_image = λ p i.
        let (k, h, b) = (rows p).1 i in
        (table_row t k, sorted_keeps (rows_of row_width n t) (table_row t k) (row_member row_width k n t h), b);
  }

-- ---- the table, which is as t₀ was past its rows

module _ (t₀ t : List ℕ) (rest : drop table_long t ≡ drop table_long t₀) where
  pub cleared_zeroed : (u : List ℕ) → u ≡ cleared t 0 table_long → u ≡ zeroed t₀
  cleared_zeroed u e = rw (← rest) (whole_cleared t u table_long e)

  pub sorted_shown : (t₁ t₂ : List ℕ) (n : ℕ) → n ≤ most_images → table_long ≤ length t → t₁ ≡ table_of (sorted (rows_of row_width n t)) t
      → t₂ ≡ cleared t₁ (n * row_width) table_long → t₂ ≡ after_pass (sorted (rows_of row_width n t)) t₀
  sorted_shown t₁ t₂ n few room e d =
      rw (← rest, sorted_rows_length row_width t n) (sorted_cleared row_width t t₁ t₂ n table_long (omega (arith, few)) room e d)
