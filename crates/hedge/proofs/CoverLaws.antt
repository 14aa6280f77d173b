-- A relation stays within the q states exactly when the relation of all their pairs covers it: joined to it, it adds no bit. Both ways
-- go pair by pair. Assumes nothing.
use mathlib.Core.Path.{◌≡◌, refl, sym, ap, ◌∙◌}
use mathlib.Core.Logic.{◌↔◌}
use mathlib.Core.Bool.{Bool, true, false, ◌||◌}
use Prim.Native.Nat.{ℕ, ◌+◌, ◌*◌, ◌^◌, ◌<◌}
use native.Mathlib.Omega.{arith}
use lib.Bits.{bit_or, bit_and, or_lt, or_add_and, and_le_r}
use lib.Dec.{ltb}
use borrow.Author.Tests.{eqb-true, eq-eqb, ltb-true, lt-ltb}
use Rattle.hedge.specs.Relation.{has, Within}
use Rattle.hedge.specs.Operations.{below, full, covers}
use Rattle.std.proofs.lemmas.Bool.{and_parts}
use Rattle.numbers.proofs.BitLaws.{bit-or}
use Rattle.hedge.proofs.RelationLaws.{has_relation, relation_lt, relation_ext}

pub below_members : (q x z : ℕ) → (below q x z ≡ true) ↔ ((x < q) × (z < q))
unfolding below
below_members q x z = (
  λ t. let (s, u) = and_parts (ltb x q) _ t in (ltb-true x q s, ltb-true z q u),
  λ m. rw (lt-ltb x q m.0, lt-ltb z q m.1),
)

has_or : (K r s x z : ℕ) → has K (bit_or r s) x z ≡ (has K r x z || has K s x z)
unfolding has
has_or K r s x z = bit-or r s (x * K + z)

module _ (K q r : ℕ) where
  has_full : (x z : ℕ) → x < K → z < K → has K (full K q) x z ≡ below q x z
  unfolding full
  has_full x z hx hz = has_relation K (below q) x z hx hz

  full_lt : full K q < 2 ^ (K * K)
  unfolding full
  full_lt = relation_lt K (below q)

  -- what the covered relation has, the covering one has
  covered : bit_or r (full K q) ≡ full K q → (x z : ℕ) → x < K → z < K → has K r x z ≡ true → (x < q) × (z < q)
  covered e x z hx hz t =
      let u : has K (full K q) x z ≡ true = sym (ap (λ (n : ℕ). has K n x z) e) ∙ has_or K r (full K q) x z ∙ rw t in
      (below_members q x z).0 (sym (has_full x z hx hz) ∙ u)

  -- and is no larger number
  covered_small : bit_or r (full K q) ≡ full K q → r < 2 ^ (K * K)
  covered_small e =
      let small = full_lt in
      let sum = or_add_and r (full K q) in
      let low = and_le_r r (full K q) in
      let same : bit_and r (full K q) ≡ r = omega arith in
      omega arith

  adds_none : r < 2 ^ (K * K) → ((x z : ℕ) → x < K → z < K → has K r x z ≡ true → (x < q) × (z < q)) → bit_or r (full K q) ≡ full K q
  adds_none small h =
      relation_ext K (bit_or r (full K q)) (full K q) (or_lt (K * K) r (full K q) small full_lt) full_lt
      (λ x z hx hz. has_or K r (full K q) x z ∙ pair x z hx hz (has K r x z) refl)
    where
      pair : (x z : ℕ) → x < K → z < K → (b : Bool) → has K r x z ≡ b → (b || has K (full K q) x z) ≡ has K (full K q) x z
      pair x z hx hz true e = sym (has_full x z hx hz ∙ (below_members q x z).1 (h x z hx hz e))
      pair x z hx hz false e = refl

  pub covers_within : (covers (full K q) r ≡ true) ↔ Within K q r
  unfolding covers
  covers_within = (
    λ t. let e = eqb-true _ _ t in record { small = covered_small e; states = covered e },
    λ w. eq-eqb _ _ (adds_none w.small w.states),
  )
