-- Any way to hold the relations of a schema's words. `Relates B S` says what the pairs of the unit, of a product and of an element are,
-- and that the pairs determine a good element. From it alone: the binoid's laws, by re-pairing; and that the value of a balanced word
-- has exactly the pairs that the schema leads through it. There one way is an induction on the value; for the other a derivation gives
-- some value with its pair, and a word has one value. Assumes nothing.
use mathlib.Core.Path.{◌≡◌, refl}
use mathlib.Core.List.{List}
use mathlib.Core.Logic.{◌↔◌}
use Prim.Native.Nat.{ℕ, ◌<◌}
use Rattle.words.specs.Tags.{Tag}
use Rattle.words.specs.Binoid.{Binoid, Laws, Value, value_empty, value_element}
use Rattle.words.proofs.ValueLaws.{value_good}
use Rattle.words.proofs.ReadLaws.{value_unique}
use Rattle.hedge.specs.Schema.{Schema, Derives, derives_empty, derives_rule, Leads, leads_here, leads_rule}
use Rattle.hedge.proofs.SchemaLaws.{derives_leads, leads_derives}

pub record Relates (B : Binoid) (S : Schema) : Type 1 where
  pub Good : B.H → Type 0
  pub Has : B.H → ℕ → ℕ → Type 0
  pub good_unit : Good B.unit
  pub good_compose : {r s : B.H} → Good r → Good s → Good (B.compose r s)
  pub good_wrap : {a : ℕ} {r : B.H} → Good r → Good (B.wrap a r)
  pub has_below : {r : B.H} {x z : ℕ} → Good r → Has r x z → (x < S.states) × (z < S.states)
  pub has_unit : {x z : ℕ} → Has B.unit x z ↔ ((x ≡ z) × (x < S.states))
  pub has_compose : {r s : B.H} {x z : ℕ} → Good r → Good s
      → Has (B.compose r s) x z ↔ ((y : ℕ) × Has r x y × Has s y z)
  pub has_wrap : {a : ℕ} {r : B.H} {x z : ℕ} → Good r
      → Has (B.wrap a r) x z ↔ ((y t : ℕ) × S.Rule x a y z × Has r y t × S.Ending t)
  pub same : {r s : B.H} → Good r → Good s → ((x z : ℕ) → Has r x z ↔ Has s x z) → r ≡ s
  pub ending_below : (t : ℕ) → S.Ending t → t < S.states

module _ {B : Binoid} {S : Schema} (R : Relates B S) where
  -- ---- the laws

  pub compose_unit_left : {r : B.H} → R.Good r → B.compose B.unit r ≡ r
  compose_unit_left {r} g =
      R.same (R.good_compose R.good_unit g) g (λ x z. (
        λ p.
            let (y, u, v) = (R.has_compose R.good_unit g).0 p in
            let e : x ≡ y = (R.has_unit.0 u).0 in
            rw e v,
        λ p. (R.has_compose R.good_unit g).1 (x, R.has_unit.1 (refl, (R.has_below g p).0), p),
      ))

  pub compose_unit_right : {r : B.H} → R.Good r → B.compose r B.unit ≡ r
  compose_unit_right {r} g =
      R.same (R.good_compose g R.good_unit) g (λ x z. (
        λ p.
            let (y, u, v) = (R.has_compose g R.good_unit).0 p in
            let e : y ≡ z = (R.has_unit.0 v).0 in
            rw e at u,
        λ p. (R.has_compose g R.good_unit).1 (z, p, R.has_unit.1 (refl, (R.has_below g p).1)),
      ))

  pub compose_assoc : {r s t : B.H} → R.Good r → R.Good s → R.Good t
      → B.compose (B.compose r s) t ≡ B.compose r (B.compose s t)
  compose_assoc g k l =
      R.same (R.good_compose (R.good_compose g k) l) (R.good_compose g (R.good_compose k l)) (λ x z. (
        λ p.
            let (y, u, v₃) = (R.has_compose (R.good_compose g k) l).0 p in
            let (y', v₁, v₂) = (R.has_compose g k).0 u in
            (R.has_compose g (R.good_compose k l)).1 (y', v₁, (R.has_compose k l).1 (y, v₂, v₃)),
        λ p.
            let (y, v₁, u) = (R.has_compose g (R.good_compose k l)).0 p in
            let (y', v₂, v₃) = (R.has_compose k l).0 u in
            (R.has_compose (R.good_compose g k) l).1 (y', (R.has_compose g k).1 (y, v₁, v₂), v₃),
      ))

  abbrev pub relates_laws : Laws B
  relates_laws =
      record {
        Good = R.Good;
        good_unit = R.good_unit;
        good_compose = λ g k. R.good_compose g k;
        good_wrap = λ g. R.good_wrap g;
        unit_left = compose_unit_left;
        unit_right = compose_unit_right;
        assoc = compose_assoc;
      }

  -- ---- the pairs of a value

  good : {w : List Tag} {r : B.H} → Value B w r → R.Good r
  good p = value_good B relates_laws p

  -- an ended pair of an element's inner word, and a pair of what follows the element
  element_has : {u v : List Tag} {h k : B.H} {x a y z s t : ℕ} → Value B u h → Value B v k → S.Rule x a y z
      → R.Has h y s
      → S.Ending s
      → R.Has k z t
      → R.Has (B.compose (B.wrap a h) k) x t
  element_has p p' r h e h' =
      (R.has_compose (R.good_wrap (good p)) (good p')).1 (_, (R.has_wrap (good p)).1 (_, _, r, h, e), h')

  value_leads : {w : List Tag} {r : B.H} → Value B w r → {x z : ℕ} → R.Has r x z → Leads S x w z
  value_leads value_empty h = let (e, l) = R.has_unit.0 h in rw (← e) (leads_here l)
  value_leads (value_element p p') h =
      let (y, h₁, h₂) = (R.has_compose (R.good_wrap (good p)) (good p')).0 h in
      let (y', t, r, h₃, e) = (R.has_wrap (good p)).0 h₁ in
      leads_rule r (leads_derives (value_leads p h₃) e) (value_leads p' h₂)

  derives_value : {x : ℕ} {w : List Tag} → Derives S x w
      → (r : B.H) × Value B w r × ((t : ℕ) × R.Has r x t × S.Ending t)
  derives_value {x} (derives_empty e) = (B.unit, value_empty, (x, R.has_unit.1 (refl, R.ending_below x e), e))
  derives_value (derives_rule r d d') =
      let (v, p, (s, h, e)) = derives_value d in
      let (v', p', (t, h', e')) = derives_value d' in
      (_, value_element p p', (t, element_has p p' r h e h', e'))

  leads_value : {x z : ℕ} {w : List Tag} → Leads S x w z → (r : B.H) × Value B w r × R.Has r x z
  leads_value (leads_here l) = (B.unit, value_empty, R.has_unit.1 (refl, l))
  leads_value (leads_rule r d l) =
      let (v, p, (s, h, e)) = derives_value d in
      let (v', p', h') = leads_value l in
      (_, value_element p p', element_has p p' r h e h')

  -- the value of a balanced word has the pairs that the schema leads through it
  pub value_relation : {w : List Tag} {r : B.H} → Value B w r → (x z : ℕ) → R.Has r x z ↔ Leads S x w z
  value_relation p x z = (
    λ h. value_leads p h,
    λ l. let (r, p', h) = leads_value l in rw (value_unique B relates_laws p' p) at h,
  )

  pub value_derived : {w : List Tag} {r : B.H} → Value B w r → (x : ℕ)
      → Derives S x w ↔ ((t : ℕ) × R.Has r x t × S.Ending t)
  value_derived p x = (
    λ d. let (t, l, e) = derives_leads R.ending_below d in (t, (value_relation p x t).1 l, e),
    λ m. let (t, h, e) = m in leads_derives (value_leads p h) e,
  )
