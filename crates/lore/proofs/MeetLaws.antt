-- A row that meets the ending states leads to an ending state: the row and the marks have a bit in common exactly when their
-- intersection is not 0. Assumes nothing.
use mathlib.Core.Path.{◌≡◌, refl, sym, ap₂, ◌∙◌}
use mathlib.Core.Bool.{Bool, true, false, false≢true, ◌&&◌}
use mathlib.Core.List.{List}
use Prim.Native.Nat.{ℕ, zero, suc, ◌*◌, ◌/◌, ◌^◌, ◌<◌}
use native.Mathlib.Nat.{lt_of_le_of_lt}
use native.Mathlib.Omega.{arith}
use lib.Bits.{bit_and, and_le_r}
use lib.Dec.{eqb, ltb}
use lib.ListN.{length, get_or}
use lib.Pow.{pow_pos}
use borrow.Author.Tests.{eqb-true, eq-eqb, ltb-true, lt-ltb}
use Rattle.std.proofs.lemmas.Bool.{and_parts}
use Rattle.numbers.specs.Bits.{bit, any, number}
use Rattle.hedge.specs.Schema.{EndsBelow}
use Rattle.hedge.specs.Relation.{has}
use Rattle.hedge.specs.Operations.{ended}
use Rattle.numbers.proofs.TestLaws.{ext_true, any_in, any_out}
use Rattle.numbers.proofs.BitLaws.{bit_number, number_lt, number_ext, bit_moved, bit-and, bit_past}
use Rattle.lore.specs.Lore.{marked, meets}

-- ---- a number that is not 0 has a bit

pub off : (b : Bool) → (b ≡ true → ⊥) → b ≡ false
off true n = absurd (n refl)
off false n = refl

no_bit : (k : ℕ) → bit 0 k ≡ false
no_bit k = bit_past 0 0 k (omega arith) (omega arith)

some_bit : (n x : ℕ) → x < 2 ^ n → 0 < x → any n (bit x) ≡ true
some_bit n x h p = go (any n (bit x)) refl
  where
    go : (b : Bool) → any n (bit x) ≡ b → any n (bit x) ≡ true
    go true e = e
    go false e =
        let z : x ≡ 0 =
        number_ext n x 0 h (pow_pos n)
        (λ k hk. off (bit x k) (λ t. false≢true (sym e ∙ any_in n (bit x) k hk t)) ∙ sym (no_bit k))
        in
        absurd (omega arith)

-- ---- a row and the ending states

module _ (K : ℕ) (ends : List ℕ) (below : EndsBelow K ends) where
  marks_bit : (k : ℕ) → k < K → bit (number K (marked ends (length ends))) k ≡ marked ends (length ends) k
  marks_bit k h = bit_number K (marked ends (length ends)) k h

  module _ (r y : ℕ) where
    met : ℕ
    met = bit_and (r / 2 ^ (y * K)) (number K (marked ends (length ends)))

    met_bit : (k : ℕ) → k < K → bit met k ≡ (has K r y k && marked ends (length ends) k)
    unfolding has met
    met_bit k h =
        bit-and (r / 2 ^ (y * K)) (number K (marked ends (length ends))) k
        ∙ ap₂ ◌&&◌ (bit_moved r (y * K) k) (marks_bit k h)

    met_lt : met < 2 ^ K
    unfolding met
    met_lt = lt_of_le_of_lt (and_le_r (r / 2 ^ (y * K)) (number K (marked ends (length ends)))) (number_lt K (marked ends (length ends)))

    there : ltb 0 met ≡ true → ended ends (has K r) y ≡ true
    unfolding ended marked
    there t =
        let (k, hk, u) = any_out K (bit met) (some_bit K met met_lt (ltb-true 0 met t)) in
        let (v, w) = and_parts (has K r y k) _ (sym (met_bit k hk) ∙ u) in
        let (j, hj, e) = any_out (length ends) (λ j. eqb (get_or ends j 0) k) w in
        any_in (length ends) (λ j. has K r y (get_or ends j 0)) j hj (rw (eqb-true (get_or ends j 0) k e) v)

    back : ended ends (has K r) y ≡ true → ltb 0 met ≡ true
    unfolding ended marked
    back t =
        let (j, hj, u) = any_out (length ends) (λ j. has K r y (get_or ends j 0)) t in
        let hk = below j hj in
        let m = any_in (length ends) (λ i. eqb (get_or ends i 0) (get_or ends j 0)) j hj (eq-eqb (get_or ends j 0) (get_or ends j 0) refl) in
        let b : bit met (get_or ends j 0) ≡ true = met_bit (get_or ends j 0) hk ∙ ap₂ ◌&&◌ u m in
        lt-ltb 0 met (positive met (get_or ends j 0) b)
      where
        positive : (x k : ℕ) → bit x k ≡ true → 0 < x
        positive zero k b = absurd (false≢true (sym (no_bit k) ∙ b))
        positive (suc x) k b = omega arith

    pub meets_ended : meets K r (number K (marked ends (length ends))) y ≡ ended ends (has K r) y
    unfolding meets met
    meets_ended = ext_true (there, back)
