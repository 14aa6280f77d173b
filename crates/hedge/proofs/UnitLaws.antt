-- The empty word before another. The unit of q states composed with a relation leaves its first q rows, which are its remainder by
-- 2 ^ (q * K): a pair (x, z) is on either side exactly when x is below q and the relation has it. So the unit of q states is the first
-- q rows of that of all states. Assumes nothing.
use mathlib.Core.Path.{◌≡◌, refl, sym, ◌∙◌}
use mathlib.Core.Bool.{Bool, true, false, false≢true, ◌&&◌, and-true, and-false}
use Prim.Native.Nat.{ℕ, ◌+◌, ◌*◌, ◌%◌, ◌^◌, ◌≤◌, ◌<◌}
use native.Mathlib.Nat.{mod-lt, mod-le, lt_of_lt_of_le, lt_of_le_of_lt, le_trans, le-add_right, mul-le-mul_right}
use native.Mathlib.Decide.{dec_lt}
use native.Mathlib.Omega.{arith}
use lib.Arith.{digits_lt}
use lib.Dec.{ltb}
use lib.Pow.{pow_pos}
use borrow.Author.Tests.{lt-ltb, le-ltb}
use Rattle.hedge.specs.Relation.{has}
use Rattle.hedge.specs.Operations.{same, linked, relation, unit, compose}
use Rattle.numbers.proofs.TestLaws.{ext_true}
use Rattle.numbers.proofs.BitLaws.{bit_rest, bit_past}
use Rattle.hedge.proofs.RelationLaws.{has_relation, relation_lt, relation_ext, relation_cong, unit_members, compose_members}

-- ---- the first q rows

module _ (K q r : ℕ) where
  row_kept : (x z : ℕ) → x < q → z < K → has K (r % 2 ^ (q * K)) x z ≡ has K r x z
  unfolding has
  row_kept x z hx hz = bit_rest r (q * K) (x * K + z) (digits_lt hx hz)

  row_gone : (x z : ℕ) → q ≤ x → has K (r % 2 ^ (q * K)) x z ≡ false
  unfolding has
  row_gone x z h =
      bit_past (r % 2 ^ (q * K)) (q * K) (x * K + z) (mod-lt r (pow_pos (q * K)))
      (le_trans (mul-le-mul_right K h) (le-add_right (x * K) z))

  module _ (fits : q ≤ K) where
    same_pairs : (x z : ℕ) → x < K → z < K → has K (compose K q (unit K q) r) x z ≡ has K (r % 2 ^ (q * K)) x z
    same_pairs x z hx hz = ext_true (there, back (dec_lt x q))
      where
        there : has K (compose K q (unit K q) r) x z ≡ true → has K (r % 2 ^ (q * K)) x z ≡ true
        there t =
            let (y, hy, u, v) = (compose_members K q (unit K q) r x z hx hz).0 t in
            let (e, h) = (unit_members K q x y hx (lt_of_lt_of_le hy fits)).0 u in
            row_kept x z h hz ∙ rw e v

        back : Dec (x < q) → has K (r % 2 ^ (q * K)) x z ≡ true → has K (compose K q (unit K q) r) x z ≡ true
        back (yes h) t =
            (compose_members K q (unit K q) r x z hx hz).1
            (x, h, (unit_members K q x x hx hx).1 (refl, h), sym (row_kept x z h hz) ∙ t)
        back (no h) t = absurd (false≢true (sym (row_gone x z (omega arith)) ∙ t))

    pub unit_compose : r < 2 ^ (K * K) → compose K q (unit K q) r ≡ r % 2 ^ (q * K)
    unfolding compose
    unit_compose small =
        relation_ext K (compose K q (unit K q) r) (r % 2 ^ (q * K)) (relation_lt K (linked q (has K (unit K q)) (has K r)))
        (lt_of_le_of_lt (mod-le r (2 ^ (q * K))) small) same_pairs

-- ---- the first q rows of a relation, and of the unit

module _ (K q : ℕ) (fits : q ≤ K) where
  row_there : (f : ℕ → ℕ → Bool) (x z : ℕ) → x < K → z < K → Dec (x < q)
      → has K (relation K f % 2 ^ (q * K)) x z ≡ (f x z && ltb x q)
  row_there f x z hx hz (yes h) =
      row_kept K q (relation K f) x z h hz ∙ has_relation K f x z hx hz ∙ rw (lt-ltb x q h, and-true)
  row_there f x z hx hz (no h) = row_gone K q (relation K f) x z (omega arith) ∙ rw (le-ltb x q (omega arith), and-false)

  pub relation_first_rows : (f : ℕ → ℕ → Bool) → relation K f % 2 ^ (q * K) ≡ relation K (λ x z. f x z && ltb x q)
  relation_first_rows f =
      relation_ext K (relation K f % 2 ^ (q * K)) (relation K (λ x z. f x z && ltb x q))
      (lt_of_le_of_lt (mod-le (relation K f) (2 ^ (q * K))) (relation_lt K f)) (relation_lt K (λ x z. f x z && ltb x q))
      (λ x z hx hz. row_there f x z hx hz (dec_lt x q) ∙ sym (has_relation K (λ x z. f x z && ltb x q) x z hx hz))

  pub unit_first_rows : unit K K % 2 ^ (q * K) ≡ unit K q
  unfolding unit same
  unit_first_rows =
      relation_first_rows (same K)
      ∙ relation_cong K (λ x z. same K x z && ltb x q) (same q) (λ x z hx hz. rw (lt-ltb x K hx, and-true))
