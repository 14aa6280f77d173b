-- The test of every place, as a loop carries it out: none, next, end, and the first place that fails; and the test of one place, by
-- whether it is in use. Then what the whole test says, by induction on the bound. Assumes nothing.
use Rattle.std.proofs.lemmas.Bool.{and_parts}
use mathlib.Core.Path.{◌≡◌, refl}
use mathlib.Core.Bool.{Bool, true, false, and-false}
use mathlib.Core.List.{List}
use Prim.Native.Nat.{ℕ, zero, suc, ◌+◌, ◌≤◌, ◌<◌}
use native.Mathlib.Decide.{ℕ_discrete, dec_lt}
use native.Mathlib.Nat.{not-suc-le-zero}
use native.Mathlib.Numerals.{add-one}
use native.Mathlib.Omega.{arith}
use lib.Dec.{eqb, ltb}
use lib.ListN.{get_or}
use borrow.Author.Tests.{lt-ltb, le-ltb, le-leb, lt-leb}
use Rattle.pieces.specs.declared.Piece.{Piece}
use Rattle.pieces.specs.Pieces.{piece_at, fits_in, is_none}
use Rattle.summary.specs.Packing.{every, name_fits, piece_fits}

-- ---- the loop

pub every_none : (f : ℕ → Bool) → every 0 f ≡ true
unfolding every
every_none f = refl

module _ (n : ℕ) (f : ℕ → Bool) where
  pub every_next : every n f ≡ true → (u : Bool) → u ≡ f n → u ≡ true → every (n + 1) f ≡ true
  unfolding every
  every_next e u eu t = rw (add-one, e, ← eu, t)

  pub every_end : every n f ≡ true → (m : ℕ) → n ≤ m → m ≤ n → true ≡ every m f
  every_end e m h h' = let d : n ≡ m = omega arith in rw (← d, e)

  pub every_fails : (u : Bool) → u ≡ f n → u ≡ false → (m : ℕ) → n < m → false ≡ every m f
  unfolding every
  every_fails u eu t zero l = absurd (not-suc-le-zero l)
  every_fails u eu t (suc m) l =
      elim (ℕ_discrete n m) [
        | yes e ↦ rw (← e, ← eu, t, and-false)
        | no e ↦ rw (← (every_fails u eu t m (omega arith)))
      ]

-- the test of one place, by whether it is in use

module _ (A n k : ℕ) (names : List ℕ) (u : Bool) where
  pub name_in_use : k < n → u ≡ ltb (get_or names k 0) A → u ≡ name_fits A n names k
  unfolding name_fits
  name_in_use l e = rw (lt-ltb k n l, e)

  pub name_unused : n ≤ k → u ≡ eqb (get_or names k 0) 0 → u ≡ name_fits A n names k
  unfolding name_fits
  name_unused l e = rw (le-ltb k n l, e)

module _ (q n k : ℕ) (values : List ℕ) (p : Piece) (is : p ≡ piece_at values k) (u : Bool) where
  pub piece_in_use : k ≤ n → u ≡ fits_in q p → u ≡ piece_fits q n values k
  unfolding piece_fits
  piece_in_use l e = rw (le-leb k n l, e, is)

  pub piece_unused : n < k → u ≡ is_none p → u ≡ piece_fits q n values k
  unfolding piece_fits
  piece_unused l e = rw (lt-leb k n l, e, is)

-- ---- what passes

pub every_out : (n : ℕ) (f : ℕ → Bool) → every n f ≡ true → (k : ℕ) → k < n → f k ≡ true
unfolding every
every_out zero f t k h = absurd (not-suc-le-zero h)
every_out (suc n) f t k h =
    let (s, u) = and_parts (every n f) _ t in
    elim (dec_lt k n) [
      | yes l ↦ every_out n f s k l
      | no l ↦ let e : k ≡ n = omega arith in rw e u
    ]

pub every_in : (n : ℕ) (f : ℕ → Bool) → ((k : ℕ) → k < n → f k ≡ true) → every n f ≡ true
unfolding every
every_in zero f h = refl
every_in (suc n) f h = rw (every_in n f (λ k l. h k (omega arith)), h n (omega arith))
