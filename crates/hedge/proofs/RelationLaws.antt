-- Relations as numbers, at any width K of a row: a relation's number has exactly its pairs (`has_relation`), and its pairs determine
-- it (`relation_ext`). So the members of the unit, of a composition and of an element around a word are read off their tests.
-- Assumes nothing.
use mathlib.Core.Path.{◌≡◌, refl, sym, ap, ap₂, ◌∙◌}
use mathlib.Core.Logic.{◌↔◌}
use mathlib.Core.Bool.{Bool, true, false, ◌&&◌, ◌||◌}
use mathlib.Core.List.{List}
use Prim.Native.Nat.{ℕ, zero, suc, ◌+◌, ◌*◌, ◌/◌, ◌%◌, ◌^◌, ◌<◌}
use native.Mathlib.Nat.{not-suc-le-zero, mod-lt, div-lt_iff_lt-mul, div-add-mod'}
use native.Mathlib.Omega.{arith}
use lib.Dec.{eqb}
use lib.Arith.{digits_lt, digits_div, digits_mod}
use lib.Bits.{bit_or}
use lib.ListN.{length, get_or}
use lib.Pow.{pow_pos, pow-lt}
use borrow.Author.Tests.{eqb-true, ltb-true, eq-eqb, lt-ltb}
use Rattle.std.proofs.lemmas.Bool.{and_parts}
use Rattle.numbers.specs.Fields.{field}
use Rattle.hedge.specs.Schema.{schema_from}
use Rattle.numbers.specs.Bits.{bit}
use Rattle.hedge.specs.Relation.{has}
use Rattle.hedge.specs.Operations.{same, linked, ended, one_pair, fires, wrapped, lowest, relation, unit, compose, wrap}
use Rattle.numbers.proofs.TestLaws.{ext_true, any_in, any_out}
use Rattle.numbers.proofs.BitLaws.{bit_number, number_lt, number_ext, number_or, bit_past, bit_pow}

-- ---- a relation and its number

width_positive : (K k : ℕ) → k < K * K → 0 < K
width_positive zero k h = absurd (not-suc-le-zero h)
width_positive (suc K) k h = omega arith

module _ (K : ℕ) where
  pub has_relation : (f : ℕ → ℕ → Bool) (x z : ℕ) → x < K → z < K → has K (relation K f) x z ≡ f x z
  unfolding has relation lowest
  has_relation f x z hx hz =
      bit_number (K * K) (λ k. f (k / K) (k % K)) (x * K + z) (digits_lt hx hz) ∙ ap₂ f (digits_div x hz) (digits_mod x hz)

  pub relation_lt : (f : ℕ → ℕ → Bool) → relation K f < 2 ^ (K * K)
  unfolding relation lowest
  relation_lt f = number_lt (K * K) (λ k. f (k / K) (k % K))

  -- a relation's number is determined by its members
  pub relation_ext : (r s : ℕ) → r < 2 ^ (K * K) → s < 2 ^ (K * K)
      → ((x z : ℕ) → x < K → z < K → has K r x z ≡ has K s x z)
      → r ≡ s
  unfolding has
  relation_ext r s hr hs e = number_ext (K * K) r s hr hs bits
    where
      bits : (k : ℕ) → k < K * K → bit r k ≡ bit s k
      bits k h =
          let hK : 0 < K = width_positive K k h in
          rw (div-add-mod' k K) at (e (k / K) (k % K) ((div-lt_iff_lt-mul hK).1 h) (mod-lt k hK))

  pub relation_cong : (f g : ℕ → ℕ → Bool) → ((x z : ℕ) → x < K → z < K → f x z ≡ g x z) → relation K f ≡ relation K g
  relation_cong f g e =
      relation_ext (relation K f) (relation K g) (relation_lt f) (relation_lt g)
      (λ x z hx hz. rw (has_relation, has_relation) (e x z hx hz))

  -- ---- no pair, one pair, a union

  pub relation_none : 0 ≡ relation K (λ x z. false)
  unfolding has
  relation_none =
      relation_ext 0 (relation K (λ x z. false)) (pow_pos (K * K)) (relation_lt _)
      (λ x z hx hz. bit_past 0 0 (x * K + z) (omega arith) (omega arith) ∙ sym (has_relation _ x z hx hz))

  same_place : (x z x' z' : ℕ) → z < K → z' < K → eqb (x' * K + z') (x * K + z) ≡ (eqb x x' && eqb z z')
  same_place x z x' z' hz hz' =
      ext_true (
        λ t.
            let e : x * K + z ≡ x' * K + z' = sym (eqb-true _ _ t) in
            let ex : x ≡ x' = sym (digits_div x hz) ∙ ap (λ (n : ℕ). n / K) e ∙ digits_div x' hz' in
            let ez : z ≡ z' = sym (digits_mod x hz) ∙ ap (λ (n : ℕ). n % K) e ∙ digits_mod x' hz' in
            rw (eq-eqb x x' ex, eq-eqb z z' ez),
        λ t.
            let (s, u) = and_parts (eqb x x') _ t in
            eq-eqb (x' * K + z') (x * K + z) (rw (eqb-true x x' s, eqb-true z z' u)),
      )

  pub relation_one : (x z : ℕ) → x < K → z < K → 2 ^ (x * K + z) ≡ relation K (λ x' z'. eqb x x' && eqb z z')
  unfolding has
  relation_one x z hx hz =
      relation_ext (2 ^ (x * K + z)) (relation K (λ x' z'. eqb x x' && eqb z z')) (pow-lt (digits_lt hx hz)) (relation_lt _)
      (λ x' z' hx' hz'.
      bit_pow (x * K + z) (x' * K + z') ∙ same_place x z x' z' hz hz' ∙ sym (has_relation _ x' z' hx' hz'))

  pub relation_or : (f g : ℕ → ℕ → Bool) → bit_or (relation K f) (relation K g) ≡ relation K (λ x z. f x z || g x z)
  unfolding relation lowest
  relation_or f g = number_or (K * K) (λ k. f (k / K) (k % K)) (λ k. g (k / K) (k % K))

-- ---- what passes the tests

pub same_members : (q x z : ℕ) → (same q x z ≡ true) ↔ ((x ≡ z) × (x < q))
unfolding same
same_members q x z = (
  λ t. let (s, u) = and_parts (eqb x z) _ t in (eqb-true x z s, ltb-true x q u),
  λ m. rw (eq-eqb x z m.0, lt-ltb x q m.1),
)

pub linked_members : (q : ℕ) (f g : ℕ → ℕ → Bool) (x z : ℕ)
    → (linked q f g x z ≡ true) ↔ ((y : ℕ) × (y < q) × (f x y ≡ true) × (g y z ≡ true))
unfolding linked
linked_members q f g x z = (
  λ t.
      let (y, h, u) = any_out q _ t in
      let (s, v) = and_parts (f x y) _ u in
      (y, h, s, v),
  λ m. let (y, h, s, v) = m in any_in q _ y h (rw (s, v)),
)

module _ (q : ℕ) (rules ends : List ℕ) where
  pub ended_members : (f : ℕ → ℕ → Bool) (y : ℕ)
      → (ended ends f y ≡ true) ↔ ((t : ℕ) × (f y t ≡ true) × (schema_from q rules ends).Ending t)
  unfolding ended
  ended_members f y = (
    λ t. let (j, h, u) = any_out (length ends) _ t in (get_or ends j 0, u, (j, h, refl)),
    λ m. let (t, u, (j, h, e)) = m in any_in (length ends) _ j h (rw e u),
  )

  pub wrapped_members : (a : ℕ) (f : ℕ → ℕ → Bool) (x z : ℕ)
      → (wrapped rules ends a f (length rules / 4) x z ≡ true)
      ↔ ((y t : ℕ) × (schema_from q rules ends).Rule x a y z × (f y t ≡ true) × (schema_from q rules ends).Ending t)
  unfolding wrapped fires one_pair
  wrapped_members a f x z = (
    λ u.
        let (i, hi, v) = any_out (length rules / 4) _ u in
        let (v₁, v₂) = and_parts (eqb (field rules i 1) a && ended ends f (field rules i 2)) _ v in
        let (va, ve) = and_parts (eqb (field rules i 1) a) _ v₁ in
        let (vx, vz) = and_parts (eqb (field rules i 0) x) _ v₂ in
        let (t, p, e) = (ended_members f (field rules i 2)).0 ve in
        (field rules i 2, t, (i, hi, eqb-true _ _ vx, eqb-true _ _ va, refl, eqb-true _ _ vz), p, e),
    λ m.
        let (y, t, (i, hi, ex, ea, ey, ez), p, e) = m in
        let u : ended ends f (field rules i 2) ≡ true = (ended_members f (field rules i 2)).1 (t, rw ey p, e) in
        any_in (length rules / 4) _ i hi (rw (eq-eqb _ _ ea, u, eq-eqb _ _ ex, eq-eqb _ _ ez)),
  )

-- ---- members of the operations

-- equal tests pass together
members_equal : {a b : Bool} {P : Type 0} → a ≡ b → (b ≡ true) ↔ P → (a ≡ true) ↔ P
members_equal e m = (λ t. m.0 (sym e ∙ t), λ p. e ∙ m.1 p)

module _ (K q : ℕ) where
  pub unit_members : (x z : ℕ) → x < K → z < K → (has K (unit K q) x z ≡ true) ↔ ((x ≡ z) × (x < q))
  unfolding unit
  unit_members x z hx hz = members_equal (has_relation K (same q) x z hx hz) (same_members q x z)

  pub compose_members : (r s x z : ℕ) → x < K → z < K
      → (has K (compose K q r s) x z ≡ true) ↔ ((y : ℕ) × (y < q) × (has K r x y ≡ true) × (has K s y z ≡ true))
  unfolding compose
  compose_members r s x z hx hz =
      members_equal (has_relation K (linked q (has K r) (has K s)) x z hx hz) (linked_members q (has K r) (has K s) x z)

  pub wrap_members : (rules ends : List ℕ) (a r x z : ℕ) → x < K → z < K
      → (has K (wrap K rules ends a r) x z ≡ true)
      ↔ ((y t : ℕ) × (schema_from q rules ends).Rule x a y z × (has K r y t ≡ true) × (schema_from q rules ends).Ending t)
  unfolding wrap
  wrap_members rules ends a r x z hx hz =
      members_equal (has_relation K (wrapped rules ends a (has K r) (length rules / 4)) x z hx hz)
      (wrapped_members q rules ends a (has K r) x z)
