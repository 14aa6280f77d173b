-- Composing by rows, at any width K of a row. What goes through state 0 is the first column of the left relation times the first row of
-- the right one (LaneLaws). A relation moved down by y bits has its column y in front, one moved down by y rows its row y: so the same
-- product gives what goes through y, and what goes through each state is joined to the composition. Assumes nothing.
use mathlib.Core.Path.{◌≡◌, sym, ap, ap₂, ◌∙◌}
use mathlib.Core.Bool.{Bool, ◌&&◌, and-true, and-false}
use Prim.Native.Nat.{ℕ, zero, suc, ◌+◌, ◌*◌, ◌/◌, ◌%◌, ◌^◌, ◌<◌}
use native.Mathlib.Nat.{mod-lt, lt_of_le_of_lt}
use native.Mathlib.Numerals.{add-one}
use native.Mathlib.Omega.{arith}
use lib.Bits.{bit_or, bit_and, and_le_r}
use lib.Dec.{eqb, eqb-suc-zero}
use lib.Pow.{pow_pos}
use Rattle.numbers.specs.Bits.{any, bit, number}
use Rattle.hedge.specs.Relation.{has}
use Rattle.hedge.specs.Operations.{linked, through, first_column, relation}
use Rattle.numbers.proofs.BitLaws.{bit_number, number_lt, number_ext, bit_moved, bit_rest, bit-and}
use Rattle.hedge.proofs.RelationLaws.{has_relation, relation_lt, relation_ext, relation_cong, relation_none, relation_or}
use Rattle.hedge.proofs.LaneLaws.{lanes_times}

module _ (K : ℕ) where
  -- ---- the first column and the first row

  first_bit : (r x z : ℕ) → (has K r x z && eqb z 0) ≡ first_column (has K r) x z
  unfolding first_column
  first_bit r x zero = and-true (has K r x 0)
  first_bit r x (suc z) = rw (eqb-suc-zero, and-false)

  pub first_column_of : (r : ℕ) → bit_and r (relation K (λ x z. eqb z 0)) ≡ relation K (first_column (has K r))
  unfolding has
  first_column_of r =
      relation_ext K (bit_and r mask) (relation K (first_column (has K r)))
      (lt_of_le_of_lt (and_le_r r mask) (relation_lt K (λ x z. eqb z 0))) (relation_lt K (first_column (has K r)))
      (λ x z hx hz.
      bit-and r mask (x * K + z) ∙ ap (λ b. has K r x z && b) (has_relation K (λ x z. eqb z 0) x z hx hz) ∙ first_bit r x z
      ∙ sym (has_relation K (first_column (has K r)) x z hx hz))
    where
      mask : ℕ
      mask = relation K (λ x z. eqb z 0)

  row_bit : (r z : ℕ) → has K r 0 z ≡ bit r z
  unfolding has
  row_bit r z = let e : 0 * K + z ≡ z = omega arith in rw e

  pub first_row_of : (r : ℕ) → r % 2 ^ K ≡ number K (has K r 0)
  first_row_of r =
      number_ext K (r % 2 ^ K) (number K (has K r 0)) (mod-lt r (pow_pos K)) (number_lt K (has K r 0))
      (λ k h. bit_rest r K k h ∙ sym (row_bit r k) ∙ sym (bit_number K (has K r 0) k h))

  -- ---- what goes through a state

  pub times_through : 0 < K → (f g : ℕ → ℕ → Bool) → relation K (first_column f) * number K (g 0) ≡ relation K (through f g 0)
  unfolding relation first_column through
  times_through h f g =
      lanes_times K h (λ x. f x 0) (number K (g 0)) (number_lt K (g 0)) K
      ∙ relation_cong K (λ x z. f x 0 && bit (number K (g 0)) z) (through f g 0)
      (λ x z hx hz. ap (λ b. f x 0 && b) (bit_number K (g 0) z hz))

  column_moved : (r y x : ℕ) → has K (r / 2 ^ y) x 0 ≡ has K r x y
  unfolding has
  column_moved r y x = let e : y + (x * K + 0) ≡ x * K + y = omega arith in rw e at (bit_moved r y (x * K + 0))

  row_moved : (r y z : ℕ) → has K (r / 2 ^ (y * K)) 0 z ≡ has K r y z
  unfolding has
  row_moved r y z = row_bit (r / 2 ^ (y * K)) z ∙ bit_moved r (y * K) z

  pub through_moved : (left right y : ℕ)
      → relation K (through (has K (left / 2 ^ y)) (has K (right / 2 ^ (y * K))) 0) ≡ relation K (through (has K left) (has K right) y)
  unfolding through
  through_moved left right y =
      relation_cong K (through (has K (left / 2 ^ y)) (has K (right / 2 ^ (y * K))) 0) (through (has K left) (has K right) y)
      (λ x z hx hz. ap₂ ◌&&◌ (column_moved left y x) (row_moved right y z))

  -- ---- from state to state

  pub linked_none : (f g : ℕ → ℕ → Bool) → 0 ≡ relation K (linked 0 f g)
  unfolding linked any
  linked_none f g = relation_none K

  pub linked_next : (f g : ℕ → ℕ → Bool) (y : ℕ)
      → bit_or (relation K (linked y f g)) (relation K (through f g y)) ≡ relation K (linked (y + 1) f g)
  unfolding linked any through
  linked_next f g y = rw (add-one, relation_or)
