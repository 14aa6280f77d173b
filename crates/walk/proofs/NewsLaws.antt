-- The nonterminals that have a new row (specs/News.antt): the loop that marks them, and the test of a slot, in the words of the code, for
-- `search news_laws`. Then what the test is for: a new row of a nonterminal sets its mark, so that each choice of a slot that is not renewed
-- is an old one. Assumes nothing.
use mathlib.Core.Path.{◌≡◌, sym, ap, ◌∙◌}
use mathlib.Core.Bool.{Bool, true, false, false≢true, or-true}
use mathlib.Core.List.{List}
use mathlib.Core.Logic.{⊎_elim}
use Prim.Native.Nat.{ℕ, zero, suc, ◌+◌, ◌-◌, ◌%◌, ◌≤◌, ◌<◌}
use native.Mathlib.Decide.{dec_lt}
use native.Mathlib.Omega.{arith}
use borrow.Author.Rules.{rules}
use borrow.Author.Tests.{eq-eqb}
use Rattle.std.proofs.lemmas.Bool.{or_parts}
use Rattle.words.specs.Reduced.{Stack}
use Rattle.numbers.specs.Bits.{bit}
use Rattle.pieces.specs.declared.Piece.{Piece}
use Rattle.useful.specs.Marks.{with_mark}
use Rattle.useful.proofs.PassLaws.{mark_bit}
use Rattle.worktable.specs.Packed.{nonterminal_in}
use Rattle.worktable.proofs.RowLaws.{row_nonterminal}
use Rattle.pairs.specs.Books.{book_of, table_row}
use Rattle.pairs.specs.Slots.{Choice, new_from}
use Rattle.pairs.specs.declared.Slot.{Slot}
use Rattle.pairs.specs.declared.Slot.TheVariants.{Absent, Single, Rows}
use Rattle.shares.proofs.ShareLaws.{below_next}
use Rattle.walk.specs.News.{marks_from, news, renews}

module _ (t : List ℕ) where
  -- ---- the loop

  pub news_none : (a : ℕ) → 0 ≡ news t a a
  unfolding news marks_from
  news_none a = let e : a - a ≡ 0 = omega arith in rw e

  pub news_next : (a k marks next v w : ℕ) (row : List ℕ) → a ≤ k → marks ≡ news t a k → row ≡ table_row t k → v ≡ nonterminal_in row
      → w ≡ v → next ≡ with_mark marks (w % 64) → next ≡ news t a (k + 1)
  unfolding news marks_from
  news_next a k marks next v w row l so_far is read wide e =
      let one : k + 1 - a ≡ suc (k - a) = omega arith in
      let at : a + (k - a) ≡ k = omega arith in
      rw (e, so_far, wide, read, is, one, at)

  -- where e is not past a the loop does not begin
  pub news_end : (a e k marks : ℕ) → marks ≡ news t a k → e ≤ k → k - a ≤ e - a → marks ≡ news t a e
  unfolding news
  news_end a e k marks so_far past within = let q : k - a ≡ e - a = omega arith in rw (← q) so_far

  -- ---- what is marked

  marks_bit : (a m d : ℕ) → d < m → bit (marks_from t a m) (nonterminal_in (table_row t (a + d)) % 64) ≡ true
  unfolding marks_from
  marks_bit a zero d l = absurd (omega arith)
  marks_bit a (suc m) d l =
      mark_bit (marks_from t a m) (row m) (row d)
      ∙ ⊎_elim (λ h. rw (marks_bit a m d h)) (λ e. rw (eq-eqb (row d) (row m) (ap row e), or-true)) (below_next d m (omega arith))
    where
      row : ℕ → ℕ
      row d = nonterminal_in (table_row t (a + d)) % 64

  news_bit : (a e k : ℕ) → a ≤ k → k < e → bit (news t a e) (nonterminal_in (table_row t k) % 64) ≡ true
  unfolding news
  news_bit a e k l h =
      let q : a + (k - a) ≡ k = omega arith in
      rw q at (marks_bit a (e - a) (k - a) (omega arith))

  -- each choice of a slot that is not renewed is old
  pub unrenewed_old : (empty : Piece) (prev n : ℕ) (first : Bool) (slot : Slot) (k : ℕ) (s : Stack Piece) (c : Piece)
      → renews slot (news t prev n) first ≡ false → Choice empty (book_of t n) slot k s c → k < new_from slot prev first
  unfolding renews
  unrenewed_old empty prev n first Absent k s c e (q, _, _) = rw e (omega arith)
  unrenewed_old empty prev n first (Single a) k s c e (q, _, _) = rw e (omega arith)
  unrenewed_old empty prev n first (Rows x) k s c e (l, r) =
      elim (dec_lt k prev) [
        | yes h ↦ h
        | no h ↦ absurd
            (false≢true
            (sym (or_parts first (bit (news t prev n) (x % 64)) e).1
            ∙ (rw (row_nonterminal (table_row t k) x s c r) at (news_bit prev n k (omega arith) l))))
      ]

pub ruleset news_laws = (news_none, news_next, news_end, rules)
