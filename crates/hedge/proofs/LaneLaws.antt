-- Rows of K bits side by side in a number. A number whose rows are 0 or 1, times a number of one row, is that row in each row that is 1:
-- by induction on the rows, the lowest first. So the first column of the states there are, times a whole row, is every pair of states.
-- Assumes nothing.
use mathlib.Core.Path.{◌≡◌, refl, sym, ap, ap₂, ◌∙◌}
use mathlib.Core.Bool.{Bool, true, false, ◌&&◌}
use Prim.Native.Nat.{ℕ, zero, suc, ◌+◌, ◌-◌, ◌*◌, ◌/◌, ◌%◌, ◌^◌, ◌≤◌, ◌<◌}
use native.Mathlib.Nat.{add_comm, pow-suc, one-mul, zero-mul, add-mul, suc-mul, mul-zero, mul_right_comm}
use native.Mathlib.Nat.{div-eq_of_lt, mod-eq_of_lt, add-div_left, add-mod_left}
use native.Mathlib.Numerals.{add-one}
use native.Mathlib.Omega.{arith}
use lib.Dec.{eqb, eqb-suc-zero, ltb}
use lib.Pow.{pow_pos}
use mir.Syntax.{w64}
use mir.Val.{Fits}
use borrow.Author.Rules.{rules}
use borrow.Author.Tests.{lt-ltb, le-ltb}
use Rattle.std.proofs.lemmas.Nat.{one_shl}
use Rattle.numbers.specs.Bits.{bit, one_if, number}
use Rattle.hedge.specs.Operations.{lowest, relation, below, below_bit, full}
use Rattle.numbers.proofs.BitLaws.{bit_number, number_lt, number_ext, number_cong, number_append, number_none}
use Rattle.hedge.proofs.RelationLaws.{relation_lt, relation_cong}
use Rattle.hedge.proofs.UnitLaws.{relation_first_rows}

-- a row of one bit
column_row : (K : ℕ) → 0 < K → (b : Bool) → number K (λ z. eqb z 0 && b) ≡ one_if b
unfolding number
column_row zero h b = absurd (omega arith)
column_row (suc K) h b =
    rw (number_cong K (λ k. eqb (suc k) 0 && b) (λ k. false) (λ k l. rw eqb-suc-zero), number_none K) (omega arith)

-- ---- rows of K bits

module _ (K : ℕ) where
  -- the lowest row, and the rows above it
  lanes_more : (n : ℕ) (f : ℕ → ℕ → Bool)
      → lowest K (suc n * K) f ≡ number K (f 0) + lowest K (n * K) (λ x. f (suc x)) * 2 ^ K
  unfolding lowest
  lanes_more n f =
      let e : suc n * K ≡ K + n * K = rw (suc-mul n K, add_comm (n * K) K) in
      rw (e, number_append K (n * K) (λ k. f (k / K) (k % K)))
      (ap₂ (λ (a b : ℕ). a + b * 2 ^ K) (number_cong K _ _ here) (number_cong (n * K) _ _ above))
    where
      positive : (k : ℕ) → k < n * K → 0 < K
      positive k h = pos_right K h
        where
          pos_right : (K : ℕ) → k < n * K → 0 < K
          pos_right zero h = absurd (omega (arith, rw mul-zero at h))
          pos_right (suc K) h = omega arith

      here : (k : ℕ) → k < K → f (k / K) (k % K) ≡ f 0 k
      here k h = rw (div-eq_of_lt h, mod-eq_of_lt h)

      above : (k : ℕ) → k < n * K → f ((K + k) / K) ((K + k) % K) ≡ f (suc (k / K)) (k % K)
      above k h = rw (add-div_left k (positive k h), add-mod_left K k, add-one)

  lanes_none : (f : ℕ → ℕ → Bool) → lowest K (0 * K) f ≡ 0
  unfolding lowest number
  lanes_none f = rw zero-mul

  one_row : (b : Bool) (s : ℕ) → s < 2 ^ K → number K (λ z. b && bit s z) ≡ one_if b * s
  one_row true s h =
      number_ext K (number K (bit s)) s (number_lt K (bit s)) h (λ k l. bit_number K (bit s) k l) ∙ sym (one-mul s)
  one_row false s h = number_none K ∙ sym (zero-mul s)

  -- times a row
  pub lanes_times : 0 < K → (p : ℕ → Bool) (s : ℕ) → s < 2 ^ K → (n : ℕ)
      → lowest K (n * K) (λ x z. eqb z 0 && p x) * s ≡ lowest K (n * K) (λ x z. p x && bit s z)
  lanes_times h p s l zero = rw (lanes_none (λ x z. eqb z 0 && p x), lanes_none (λ x z. p x && bit s z)) (omega arith)
  lanes_times h p s l (suc n) =
      rw (
        lanes_more n (λ x z. eqb z 0 && p x),
        lanes_more n (λ x z. p x && bit s z),
        column_row K h (p 0),
        one_row (p 0) s l,
        ← (lanes_times h (λ x. p (suc x)) s l n),
        add-mul,
        mul_right_comm (lowest K (n * K) (λ x z. eqb z 0 && p (suc x))) (2 ^ K) s,
      )

-- ---- all pairs: a whole row in each row there is, at the width of the code

pub first-column : ◌≡◌ {A = ℕ} 72340172838076673 (relation 8 (λ x z. eqb z 0))
unfolding relation lowest number
first-column = refl

ones : (n : ℕ) → number n (λ k. true) + 1 ≡ 2 ^ n
unfolding number
ones zero = refl
ones (suc n) = rw pow-suc (omega (arith, ones n))

whole_row : (q r : ℕ) → number (q + r) (below_bit q) + 1 ≡ 2 ^ q
unfolding below_bit
whole_row q r =
    rw (
      number_append q r (λ z. ltb z q),
      number_cong q (λ z. ltb z q) (λ k. true) (λ k h. lt-ltb k q h),
      number_cong r (λ k. ltb (q + k) q) (λ k. false) (λ k h. le-ltb (q + k) q (omega arith)),
      number_none r,
    )
    (omega (arith, ones q))

pub whole_row_is : (q : ℕ) → q ≤ 8 → (1 * 2 ^ q) % 2 ^ 64 - 1 ≡ number 8 (below_bit q)
whole_row_is q h =
    let e : q + (8 - q) ≡ 8 = omega arith in
    let d : number 8 (below_bit q) + 1 ≡ 2 ^ q = rw e at (whole_row q (8 - q)) in
    rw (one_shl q 64 (omega arith)) (omega (arith, d))

pub whole_row_positive : (q : ℕ) → q ≤ 8 → 1 ≤ (1 * 2 ^ q) % 2 ^ 64
whole_row_positive q h = rw (one_shl q 64 (omega arith)) (pow_pos q)

module _ (q n r s : ℕ) (h : q ≤ 8) (er : r ≡ 72340172838076673 % 2 ^ (q * 8)) (es : s ≡ number 8 (below_bit n)) where
  rows_there : r ≡ relation 8 (λ x z. eqb z 0 && ltb x q)
  rows_there =
      er ∙ ap (λ (n : ℕ). n % 2 ^ (q * 8)) first-column
      ∙ relation_first_rows 8 q h (λ x z. eqb z 0)

  columns : r * s ≡ relation 8 (λ x z. ltb x q && below_bit n z)
  unfolding relation
  columns =
      rw (rows_there, es)
      (lanes_times 8 (omega arith) (λ x. ltb x q) (number 8 (below_bit n)) (number_lt 8 (below_bit n)) 8
      ∙ relation_cong 8 (λ x z. ltb x q && bit (number 8 (below_bit n)) z) (λ x z. ltb x q && below_bit n z)
      (λ x z hx hz. ap (λ b. ltb x q && b) (bit_number 8 (below_bit n) z hz)))

  pub columns_fit : Fits w64 (r * s)
  columns_fit = record { fits = rw columns (relation_lt 8 (λ x z. ltb x q && below_bit n z)) }

pub full_is : (q r s : ℕ) → q ≤ 8 → r ≡ 72340172838076673 % 2 ^ (q * 8) → s ≡ number 8 (below_bit q) → r * s ≡ full 8 q
unfolding full below below_bit
full_is q r s h er es = columns q q r s h er es ∙ relation_cong 8 _ (below q) (λ x z hx hz. refl)

pub ruleset lanes = (
  whole_row_is,
  columns_fit,
  full_is,
  rules,
)
