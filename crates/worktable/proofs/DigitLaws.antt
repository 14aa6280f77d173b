-- Numbers as a list, and in one entry, w bits each (specs/Packed.antt); and the turns of the loops that make them, in the words in which the
-- code has them, for `search digits`. Every loop goes number by number; the entry of n numbers is below 2 to the w * n, so none is lost.
-- Assumes nothing.
use mathlib.Core.Path.{◌≡◌, refl, ap, ◌∙◌}
use mathlib.Core.List.{List, [], ◌∷◌, ◌++◌, append_assoc, append-nil}
use Prim.Native.Nat.{ℕ, zero, suc, ◌+◌, ◌-◌, ◌*◌, ◌/◌, ◌%◌, ◌^◌, ◌≤◌, ◌<◌}
use native.Mathlib.Numerals.{add-one}
use native.Mathlib.Nat.{mul_comm, mul-le-mul_left, mul-le-mul_right, lt_of_lt_of_le, div-one, div-eq_of_lt, mod-eq_of_lt}
use native.Mathlib.Nat.{add-mul-div_left, add-mul-mod_self_left, div-div-eq-div-mul}
use native.Mathlib.Omega.{arith}
use lib.ListN.{length, get_or, set}
use lib.Pow.{pow-add, pow_mono, pow_pos}
use lib.Seq.{set_at}
use mir.Syntax.{w64}
use mir.Val.{Fits}
use borrow.Author.Rules.{rules}
use Rattle.pieces.specs.declared.Piece.{Piece}
use Rattle.pieces.specs.Pieces.{most_pieces, piece_at, AllCounted}
use Rattle.worktable.specs.Packed.{numbers_from, digits_in, relations_in, outermost_in}
use Rattle.rows.proofs.MoveLaws.{zero_entries}

-- ---- as a list

pub numbers_length : (at : ℕ → ℕ) (k n : ℕ) → length (numbers_from at k n) ≡ n
unfolding numbers_from
numbers_length at k zero = refl
numbers_length at k (suc n) = ap suc (numbers_length at (suc k) n)

pub numbers_at : (at : ℕ → ℕ) (k n i : ℕ) → i < n → get_or (numbers_from at k n) i 0 ≡ at (k + i)
unfolding numbers_from
numbers_at at k zero i h = absurd (omega arith)
numbers_at at k (suc n) zero h = let z : k + 0 ≡ k = omega arith in rw z
numbers_at at k (suc n) (suc i) h = let z : k + suc i ≡ suc k + i = omega arith in rw z (numbers_at at (suc k) n i (omega arith))

numbers_more : (at : ℕ → ℕ) (k n : ℕ) → numbers_from at k (suc n) ≡ numbers_from at k n ++ (at (k + n) ∷ [])
unfolding numbers_from
numbers_more at k zero = let z : k + 0 ≡ k = omega arith in rw z
numbers_more at k (suc n) =
    let z : k + suc n ≡ suc k + n = omega arith in
    rw z (ap (λ (l : List ℕ). at k ∷ l) (numbers_more at (suc k) n))

-- the k first stand in an array of m, and 0 behind them
module _ (at : ℕ → ℕ) (m : ℕ) where
  numbers_none : zero_entries m ≡ numbers_from at 0 0 ++ zero_entries (m - 0)
  unfolding numbers_from
  numbers_none = let z : m - 0 ≡ m = omega arith in rw z

  module _ (l : List ℕ) (k : ℕ) (so_far : l ≡ numbers_from at 0 k ++ zero_entries (m - k)) where
    numbers_next : k < m → set l k (at k) ≡ numbers_from at 0 (k + 1) ++ zero_entries (m - (k + 1))
    numbers_next h =
        let p : m - k ≡ suc (m - suc k) = omega arith in
        let z : 0 + k ≡ k = omega arith in
        rw (so_far, p, add-one k, numbers_more at 0 k, z, append_assoc)
        (set_at (numbers_from at 0 k) 0 (zero_entries (m - suc k)) (at k) k (numbers_length at 0 k))

    numbers_end : m ≤ k → k ≤ m → l ≡ numbers_from at 0 m
    numbers_end h b =
        let d : k ≡ m = omega arith in
        let z : m - m ≡ 0 = omega arith in
        so_far ∙ rw (d, z) (append-nil (numbers_from at 0 m))

-- ---- in one entry

-- the entry's digit i is number i
pub digit_at : (w : ℕ) (at : ℕ → ℕ) → ((k : ℕ) → at k < 2 ^ w) → (k i n : ℕ) → i < n
    → digits_in w at k n / 2 ^ (i * w) % 2 ^ w ≡ at (k + i)
unfolding digits_in
digit_at w at small k i zero h = absurd (omega arith)
digit_at w at small k zero (suc n) h =
    let z : k + 0 ≡ k = omega arith in
    let none : 0 * w ≡ 0 = omega arith in
    rw (z, none, div-one) (add-mul-mod_self_left (at k) (2 ^ w) (digits_in w at (suc k) n) ∙ mod-eq_of_lt (small k))
digit_at w at small k (suc i) (suc n) h =
    let z : k + suc i ≡ suc k + i = omega arith in
    let more : suc i * w ≡ w + i * w = omega arith in
    let q : (at k + 2 ^ w * digits_in w at (suc k) n) / 2 ^ w ≡ digits_in w at (suc k) n =
    add-mul-div_left (at k) (digits_in w at (suc k) n) (pow_pos w) ∙ ap (λ (d : ℕ). d + digits_in w at (suc k) n) (div-eq_of_lt (small k))
    ∙ omega arith in
    rw (z, more, pow-add, ← div-div-eq-div-mul, q) (digit_at w at small (suc k) i n (omega arith))

-- the entry of n numbers has w * n bits
pub digits_small : (w : ℕ) (at : ℕ → ℕ) → ((k : ℕ) → at k < 2 ^ w) → (k n : ℕ) → digits_in w at k n < 2 ^ (w * n)
unfolding digits_in
digits_small w at small k zero = pow_pos (w * 0)
digits_small w at small k (suc n) =
    let more : w * suc n ≡ w + w * n = omega arith in
    let product = mul-le-mul_left (2 ^ w) (digits_small w at small (suc k) n) in
    let parted : 2 ^ w * suc (digits_in w at (suc k) n) ≡ 2 ^ w * digits_in w at (suc k) n + 2 ^ w = omega arith in
    rw (more, pow-add) (omega (arith, product, parted, small k))

module _ (w n : ℕ) (at : ℕ → ℕ) (k : ℕ) where
  -- r has the numbers from the i-th on, and room for those before it
  pub record From (i r : ℕ) : Type 0 where
    pub left : i ≤ n
    pub digits : r ≡ digits_in w at (k + i) (n - i)
    pub small : r < 2 ^ (w * (n - i))

  pub from_none : From n 0
  unfolding digits_in
  from_none = let z : n - n ≡ 0 = omega arith in record { left = omega arith; digits = rw z; small = pow_pos (w * (n - n)) }

  module _ (i r : ℕ) (f : From i r) where
    module _ (h : 0 < i) (b : ℕ) (below : b < 2 ^ w) where
      from_small : r * 2 ^ w + b < 2 ^ (w * (n - (i - 1)))
      from_small =
          let m : n - (i - 1) ≡ suc (n - i) = omega (arith, f.left) in
          let more : w * suc (n - i) ≡ w + w * (n - i) = omega arith in
          let product = mul-le-mul_right (2 ^ w) f.small in
          let parted : suc r * 2 ^ w ≡ r * 2 ^ w + 2 ^ w = omega arith in
          let turned = mul_comm (2 ^ w) (2 ^ (w * (n - i))) in
          rw (m, more, pow-add) (omega (arith, product, parted, turned))

      pub from_next : b ≡ at (k + (i - 1)) → From (i - 1) (r * 2 ^ w + b)
      unfolding digits_in
      from_next e =
          let m : n - (i - 1) ≡ suc (n - i) = omega (arith, f.left) in
          let z : k + i ≡ suc (k + (i - 1)) = omega arith in
          record {
            left = omega (arith, f.left);
            digits = rw (m, ← z, ← f.digits, ← e) (omega (arith, mul_comm r (2 ^ w)));
            small = from_small;
          }

      -- it fits where all digits do
      pub from_fits : w * n ≤ 64 → Fits w64 (r * 2 ^ w + b)
      from_fits room =
          let few : w * (n - (i - 1)) ≤ w * n = mul-le-mul_left w (omega arith) in
          record { fits = lt_of_lt_of_le from_small (pow_mono {i = w * (n - (i - 1))} {j = 64} (omega arith)) }

    pub from_end : i ≤ 0 → r ≡ digits_in w at k n
    from_end h =
        let z : i ≡ 0 = omega arith in
        let y : k + 0 ≡ k = omega arith in
        let m : n - 0 ≡ n = omega arith in
        rw (z, y, m) at f.digits

-- ---- in the words of the code: the counts of outermost elements

abbrev pub CountsFrom : List ℕ → ℕ → ℕ → Type 0
CountsFrom values = From 2 most_pieces (λ k. (piece_at values k).outermost) 0

module _ (values : List ℕ) (all : AllCounted values) where
  pub counts_none : CountsFrom values most_pieces 0
  counts_none = from_none 2 most_pieces (λ k. (piece_at values k).outermost) 0

  module _ (i r : ℕ) (f : CountsFrom values i r) (h : 0 < i) where
    pub counts_fit : Fits w64 (r * 4)
    counts_fit =
        let more = from_fits 2 most_pieces (λ k. (piece_at values k).outermost) 0 i r f h 0 (omega arith) (omega arith) in
        record { fits = omega (arith, more.fits) }

    module _ (p : Piece) (j : ℕ) (at : p ≡ piece_at values j) where
      below : p.outermost < 4
      below = rw at (omega (arith, all j))

      pub counts_fit_more : Fits w64 (r * 4 + p.outermost)
      counts_fit_more = from_fits 2 most_pieces (λ k. (piece_at values k).outermost) 0 i r f h p.outermost below (omega arith)

      pub counts_next : j ≡ i - 1 → CountsFrom values (i - 1) (r * 4 + p.outermost)
      counts_next e =
          from_next 2 most_pieces (λ k. (piece_at values k).outermost) 0 i r f h p.outermost below
          (rw at (ap (λ (j : ℕ). (piece_at values j).outermost) (omega arith)))

pub counts_end : (values : List ℕ) (i r : ℕ) → CountsFrom values i r → i ≤ 0 → r ≡ outermost_in values
counts_end values i r f h = from_end 2 most_pieces (λ k. (piece_at values k).outermost) 0 i r f h

-- the relations of a form

abbrev pub relation_at : List ℕ → ℕ → ℕ
relation_at values k = (piece_at values k).relation

pub related_none : (values : List ℕ) → zero_entries most_pieces ≡ numbers_from (relation_at values) 0 0 ++ zero_entries (most_pieces - 0)
related_none values = numbers_none (relation_at values) most_pieces

module _ (values relations : List ℕ) (k : ℕ) (so_far : relations ≡ numbers_from (relation_at values) 0 k ++ zero_entries (most_pieces - k)) where
  pub related_next : (p : Piece) → p ≡ piece_at values k → k < most_pieces
      → set relations k p.relation ≡ numbers_from (relation_at values) 0 (k + 1) ++ zero_entries (most_pieces - (k + 1))
  related_next p e h = rw e (numbers_next (relation_at values) most_pieces relations k so_far h)

  pub related_end : most_pieces ≤ k → k ≤ most_pieces → relations ≡ relations_in values
  related_end h l = numbers_end (relation_at values) most_pieces relations k so_far h l

pub ruleset digits = (
  counts_none,
  counts_fit,
  counts_fit_more,
  counts_next,
  counts_end,
  related_none,
  related_next,
  related_end,
  rules,
)
