-- The pairs that the rows of a book pack, as a list: one for each row, and each once, since a row packs one pair and a pair has one row. By
-- induction on the number of rows, the last row's pair in front. Assumes nothing.
use mathlib.Core.Path.{◌≡◌, refl, ap}
use mathlib.Core.List.Memᴰ
use mathlib.Core.List.{List, [], ◌∷◌, Memᴰ}
use mathlib.Core.Logic.{⊎_elim}
use Prim.Native.Nat.{ℕ, zero, suc, ◌<◌}
use native.Mathlib.Decide.{dec_lt}
use native.Mathlib.Omega.{arith}
use lib.ListN.{length}
use Rattle.pieces.specs.declared.Piece.{Piece}
use Rattle.trees.specs.Events.{Pair, Distinct, distinct_none, distinct_more}
use Rattle.rows.proofs.TableLaws.{Differing}
use Rattle.worktable.specs.Packed.{row_width, PairRow}
use Rattle.worktable.proofs.RowLaws.{row_pair, pair_row}
use Rattle.pairs.specs.Books.{Book, book_of, table_row, Tabled}
use Rattle.walk.proofs.ProgressLaws.{tabled_later}

-- a row packs one pair, and a pair has one row
pub row_one_pair : (row : List ℕ) (p q : Pair Piece) → PairRow row p → PairRow row q → p ≡ q
row_one_pair row p q a b =
    let (x, s, c) = row_pair row p.of q.of p.form q.form p.last q.last a b in
    λ i. record { of = x i; form = s i; last = c i }

pub pair_one_row : (row row' : List ℕ) (p : Pair Piece) → PairRow row p → PairRow row' p → row ≡ row'
pair_one_row row row' p a b = pair_row row row' p.of p.form p.last a b

-- ---- rows that pack pairs

abbrev pub PairRows : List ℕ → ℕ → Type 0
PairRows t n = (k : ℕ) → k < n → (p : Pair Piece) × PairRow (table_row t k) p

-- the list
pub record Listed (b : Book) : Type 0 where
  pub pairs : List (Pair Piece)
  pub count : length pairs ≡ b.rows
  pub distinct : Distinct pairs
  pub each : (p : Pair Piece) → Memᴰ p pairs → Tabled b p
  pub every : (p : Pair Piece) → Tabled b p → Memᴰ p pairs

module _ (t : List ℕ) where
  -- a pair of the last row is not one of the rows before
  last_new : (n : ℕ) → Differing row_width t (suc n) → (p : Pair Piece) → PairRow (table_row t n) p → Tabled (book_of t n) p → ⊥
  last_new n different p a (k, l, b) =
      let e : k ≡ n = different k n (omega (arith, l)) (omega arith) (pair_one_row (table_row t k) (table_row t n) p b a) in
      omega (arith, l, e)

  last_or_before : (n : ℕ) (q p : Pair Piece) → PairRow (table_row t n) q → (l : List (Pair Piece))
      → ((p : Pair Piece) → Tabled (book_of t n) p → Memᴰ p l) → Tabled (book_of t (suc n)) p → Memᴰ p (q ∷ l)
  last_or_before n q p a l every (k, h, b) = from (dec_lt k n)
    where
      from : Dec (k < n) → Memᴰ p (q ∷ l)
      from (yes s) = Memᴰ.tail (every p (k, s, b))
      from (no s) =
          let e : k ≡ n = omega (arith, h, s) in
          Memᴰ.head (row_one_pair (table_row t n) p q (rw e at b) a)

  listed_more : (n : ℕ) → Differing row_width t (suc n) → (q : Pair Piece) → PairRow (table_row t n) q → Listed (book_of t n)
      → Listed (book_of t (suc n))
  listed_more n different q a l = record {
    pairs = q ∷ l.pairs;
    count = ap suc l.count;
    distinct = distinct_more (λ m. last_new n different q a (l.each q m)) l.distinct;
    each = λ p m.
        ⊎_elim (λ (e : p ≡ q). (n, omega arith, rw e a))
        (λ k. tabled_later (book_of t n) (book_of t (suc n)) (omega arith) (λ j h. refl) p (l.each p k)) (Memᴰ.cases_cons m);
    every = λ p b. last_or_before n q p a l.pairs l.every b;
  }

  pub listed : (n : ℕ) → PairRows t n → Differing row_width t n → Listed (book_of t n)
  listed zero pair-rows different = record {
    pairs = [];
    count = refl;
    distinct = distinct_none;
    each = λ p m. absurd (Memᴰ.not-nil m);
    every = λ p (k, l, a). absurd (omega (arith, l));
  }
  listed (suc n) pair-rows different =
      let (q, a) = pair-rows n (omega arith) in
      listed_more n different q a
      (listed n (λ k l. pair-rows k (omega (arith, l))) (λ j k l m. different j k (omega (arith, l)) (omega (arith, m))))
