-- The element around a word, read off the lore, is that of the schema: the join over inner states of "the row is ended, and a rule has
-- this name and inner state" is the test that some rule has this name and an inner state whose row is ended. At any width K. So the
-- lore's binoid is the schema's, and a lore that a call is given has its laws. Assumes nothing.
use mathlib.Core.Path.{◌≡◌, refl, sym, ap, ◌∙◌}
use mathlib.Core.Bool.{Bool, true, false, ◌&&◌, cond}
use mathlib.Core.List.{List, []}
use Prim.Native.Nat.{ℕ, zero, suc, ◌*◌, ◌/◌, ◌≤◌, ◌<◌}
use native.Mathlib.Nat.{mul-le-mul_right}
use native.Mathlib.Decide.{dec_lt}
use native.Mathlib.Omega.{arith}
use lib.Dec.{eqb}
use lib.ListN.{length, get_or, get_or-eq_default}
use borrow.Author.Tests.{eqb-true, eq-eqb}
use Rattle.std.proofs.lemmas.Bool.{and_parts}
use Rattle.numbers.specs.Bits.{any, number}
use Rattle.numbers.specs.Fields.{field}
use Rattle.words.specs.Tags.{most_names}
use Rattle.words.specs.Binoid.{Laws}
use Rattle.hedge.specs.Schema.{most_states, RulesBelow, EndsBelow}
use Rattle.hedge.specs.Relation.{has, Within}
use Rattle.hedge.specs.Operations.{ended, one_pair, fires, wrapped, relation, compose, wrap, accepts, relations}
use Rattle.numbers.proofs.TestLaws.{ext_true, any_in, any_out}
use Rattle.hedge.proofs.RelationLaws.{relation_cong, relation_none, relation_or}
use Rattle.hedge.proofs.NumberLaws.{relations_laws, within_wrap}
use Rattle.lore.specs.Lore.{lore_long, marked, reads, outer, leaf_of, place_of, NamesBelow, Masks, Taught, IsLore, Known}
use Rattle.lore.specs.Lore.{states_in, ending_bits, empty_in, meets, met_entry, joined, taught_wrap, taught_accepts, taught}
use Rattle.lore.proofs.MeetLaws.{off, meets_ended}

-- ---- the tests

-- some inner state below n is ended and has a rule
unfoldable inside : List ℕ → List ℕ → ℕ → (ℕ → ℕ → Bool) → ℕ → ℕ → ℕ → Bool
inside rules ends a f n x z = any n (λ y. ended ends f y && outer rules a (λ v. eqb v y) (length rules / 4) x z)

module _ (K : ℕ) (rules ends : List ℕ) (a : ℕ) (f : ℕ → ℕ → Bool) (x z : ℕ) where
  rule_fires : (i y : ℕ) → eqb (field rules i 1) a ≡ true
      → field rules i 2 ≡ y
      → ended ends f y ≡ true
      → (eqb (field rules i 0) x && eqb (field rules i 3) z) ≡ true
      → fires rules ends a f i x z ≡ true
  unfolding fires one_pair
  rule_fires i y ea ey e p = rw (ea, ey, e, p)

  inside_wrapped : inside rules ends a f K x z ≡ true → wrapped rules ends a f (length rules / 4) x z ≡ true
  unfolding inside outer reads one_pair wrapped fires
  inside_wrapped t =
      let (y, hy, u) = any_out K (λ y. ended ends f y && outer rules a (λ v. eqb v y) (length rules / 4) x z) t in
      let (e, o) = and_parts (ended ends f y) _ u in
      let (i, hi, p) = any_out (length rules / 4) (λ i. reads rules a (λ v. eqb v y) i x z) o in
      let (p₁, p₂) = and_parts (eqb (field rules i 1) a && eqb (field rules i 2) y) _ p in
      let (pa, py) = and_parts (eqb (field rules i 1) a) _ p₁ in
      any_in (length rules / 4) (λ i. fires rules ends a f i x z) i hi
      (rule_fires i y pa (eqb-true (field rules i 2) y py) e p₂)

  wrapped_inside : RulesBelow K rules → wrapped rules ends a f (length rules / 4) x z ≡ true → inside rules ends a f K x z ≡ true
  unfolding inside outer reads one_pair wrapped fires
  wrapped_inside below t =
      let (i, hi, p) = any_out (length rules / 4) (λ i. fires rules ends a f i x z) t in
      let (p₁, p₂) = and_parts (eqb (field rules i 1) a && ended ends f (field rules i 2)) _ p in
      let (pa, e) = and_parts (eqb (field rules i 1) a) _ p₁ in
      let o : outer rules a (λ v. eqb v (field rules i 2)) (length rules / 4) x z ≡ true =
      any_in (length rules / 4) (λ k. reads rules a (λ v. eqb v (field rules i 2)) k x z) i hi
      (rw (pa, eq-eqb (field rules i 2) (field rules i 2) refl, p₂))
      in
      any_in K (λ y. ended ends f y && outer rules a (λ v. eqb v y) (length rules / 4) x z) (field rules i 2) (below i hi).1 (rw (e, o))

-- ---- names past the table

pub unnamed_entry : (K : ℕ) (lore : List ℕ) (a y : ℕ) → length lore ≡ lore_long K → most_names ≤ a → get_or lore (place_of K a y) 0 ≡ 0
unnamed_entry K lore a y long h =
    let far : most_names * K ≤ a * K = mul-le-mul_right K h in
    get_or-eq_default lore 0 (rw long (omega arith))

unnamed_part : (K : ℕ) (lore : List ℕ) (a r y : ℕ) → length lore ≡ lore_long K → most_names ≤ a → met_entry K lore a r y ≡ 0
unfolding met_entry
unnamed_part K lore a r y long h = rw (unnamed_entry K lore a y long h) (none (meets K r (ending_bits lore) y))
  where
    none : (b : Bool) → ◌≡◌ {A = ℕ} (cond b 0 0) 0
    none true = refl
    none false = refl

unnamed_joined : (K : ℕ) (lore : List ℕ) (a r n : ℕ) → length lore ≡ lore_long K → most_names ≤ a → joined K lore a r n ≡ 0
unfolding joined
unnamed_joined K lore a r zero long h = refl
unnamed_joined K lore a r (suc y) long h = rw (unnamed_joined K lore a r y long h, unnamed_part K lore a r y long h)

pub unnamed_wrap : (K : ℕ) (lore : List ℕ) (a r : ℕ) → length lore ≡ lore_long K → most_names ≤ a → taught_wrap K lore a r ≡ 0
unfolding taught_wrap
unnamed_wrap K lore a r long h = unnamed_joined K lore a r K long h

unnamed : (rules : List ℕ) → NamesBelow most_names rules → (a y : ℕ) → most_names ≤ a → (x z : ℕ)
    → outer rules a (λ v. eqb v y) (length rules / 4) x z ≡ false
unfolding outer reads one_pair
unnamed rules names a y ha x z =
    off (outer rules a (λ v. eqb v y) (length rules / 4) x z)
    (λ t.
    let (i, hi, p) = any_out (length rules / 4) (λ i. reads rules a (λ v. eqb v y) i x z) t in
    let (q, _) = and_parts (eqb (field rules i 1) a && eqb (field rules i 2) y) _ p in
    let (e, _) = and_parts (eqb (field rules i 1) a) _ q in
    let d : field rules i 1 ≡ a = eqb-true (field rules i 1) a e in
    absurd (omega (arith, names i hi)))

-- ---- the entries joined

module _ (K : ℕ) (rules ends lore : List ℕ) where
  relation_when : (b : Bool) (g : ℕ → ℕ → Bool) → cond b (relation K g) 0 ≡ relation K (λ x z. b && g x z)
  relation_when true g = refl
  relation_when false g = relation_none K

  module _ (masks : Masks K rules (length rules / 4) lore) (names : NamesBelow most_names rules) where
    -- the entries are those of the rules at every name: past the table there is neither
    entries_all : (a y : ℕ) → y < K → get_or lore (place_of K a y) 0 ≡ relation K (outer rules a (λ v. eqb v y) (length rules / 4))
    entries_all a y hy =
        elim (dec_lt a most_names) [
          | yes h ↦ masks.entries a y h hy
          | no h ↦
              unnamed_entry K lore a y masks.long (omega arith)
              ∙ relation_none K
              ∙ relation_cong K (λ x z. false) (outer rules a (λ v. eqb v y) (length rules / 4))
              (λ x z hx hz. sym (unnamed rules names a y (omega arith) x z))
        ]

    module _ (below : EndsBelow K ends) (marks : ending_bits lore ≡ number K (marked ends (length ends))) (a r : ℕ) where
      part_is : (y : ℕ) → y < K
          → met_entry K lore a r y ≡ relation K (λ x z. ended ends (has K r) y && outer rules a (λ v. eqb v y) (length rules / 4) x z)
      unfolding met_entry
      part_is y h =
          rw (marks, meets_ended K ends below r y, entries_all a y h)
          (relation_when (ended ends (has K r) y) (outer rules a (λ v. eqb v y) (length rules / 4)))

      joined_is : (n : ℕ) → n ≤ K → joined K lore a r n ≡ relation K (inside rules ends a (has K r) n)
      unfolding joined inside any
      joined_is zero h = relation_none K
      joined_is (suc y) h = rw (joined_is y (omega arith), part_is y (omega arith), relation_or) refl

      wrap_is : RulesBelow K rules → taught_wrap K lore a r ≡ wrap K rules ends a r
      unfolding taught_wrap wrap
      wrap_is rules_below =
          joined_is K (omega arith)
          ∙ relation_cong K (inside rules ends a (has K r) K) (wrapped rules ends a (has K r) (length rules / 4))
          (λ x z hx hz.
          ext_true (inside_wrapped K rules ends a (has K r) x z, wrapped_inside K rules ends a (has K r) x z rules_below))

-- ---- the lore's binoid is the schema's

module _ (K q : ℕ) (rules ends lore : List ℕ) (t : Taught K q rules ends lore) (rules_below : RulesBelow K rules)
    (names_below : NamesBelow most_names rules) (ends_below : EndsBelow K ends) where
  pub taught-wrap : (a r : ℕ) → taught_wrap K lore a r ≡ wrap K rules ends a r
  taught-wrap a r = wrap_is K rules ends lore t.masks names_below ends_below t.endings a r rules_below

  pub taught-accepts : (r : ℕ) → taught_accepts K lore r ≡ accepts K ends r
  unfolding taught_accepts accepts
  taught-accepts r = rw t.endings (meets_ended K ends ends_below r 0)

  pub taught_is : taught K lore ≡ relations K q rules ends
  taught_is i =
      record {
        H = ℕ;
        unit = t.empty i;
        compose = compose K (t.states i);
        wrap = λ a r. taught-wrap a r i;
      }

-- ---- what every lore keeps

pub rules_wider : (q K : ℕ) (rules : List ℕ) → q ≤ K → RulesBelow q rules → RulesBelow K rules
rules_wider q K rules few below i hi = let (hx, hy, hz) = below i hi in (omega arith, omega arith, omega arith)

pub ends_wider : (q K : ℕ) (ends : List ℕ) → q ≤ K → EndsBelow q ends → EndsBelow K ends
ends_wider q K ends few below j hj = omega (arith, below j hj)

module _ (q : ℕ) (rules ends lore : List ℕ) (few : q ≤ most_states) (rules_below : RulesBelow q rules)
    (names_below : NamesBelow most_names rules) (ends_below : EndsBelow q ends) (t : Taught most_states q rules ends lore) where
  pub lore_wrap : (a r : ℕ) → taught_wrap most_states lore a r ≡ wrap most_states rules ends a r
  lore_wrap a r =
      taught-wrap most_states q rules ends lore t (rules_wider q most_states rules few rules_below) names_below
      (ends_wider q most_states ends few ends_below) a r

  -- the leaf is the element around the empty word
  pub lore_leaf : (a : ℕ) → a < most_names → get_or lore (leaf_of a) 0 ≡ taught_wrap most_states lore a (empty_in lore)
  unfolding outer reads wrap wrapped fires
  lore_leaf a ha =
      t.leaves.leaves a ha
      ∙ ap (λ (p : ℕ → Bool). relation most_states (outer rules a p (length rules / 4)))
      (λ i y. (ap (λ (m : ℕ). meets most_states (empty_in lore) m y) t.endings
      ∙ meets_ended most_states ends (ends_wider q most_states ends few ends_below) (empty_in lore) y) i)
      ∙ sym (lore_wrap a (empty_in lore))

  -- so it keeps what every lore keeps
  pub known_lore : Known most_states lore
  known_lore =
      record {
        few = rw t.states few;
        empty = rw t.states t.empty;
        leaves = lore_leaf;
        unnamed = λ a r h. unnamed_wrap most_states lore a r t.masks.long h;
        within = λ a r. rw (t.states, lore_wrap a r) (within_wrap most_states q few rules ends rules_below ends_below a r);
      }

-- ---- of the lore of some schema

pub is_lore : (q : ℕ) (rules ends lore : List ℕ) → q ≤ most_states → RulesBelow q rules
    → NamesBelow most_names rules
    → EndsBelow q ends
    → Taught most_states q rules ends lore
    → IsLore most_states lore
is_lore q rules ends lore few rb nb eb t =
    record {
      states = q;
      rules = rules;
      ends = ends;
      few = few;
      rules_below = rb;
      names_below = nb;
      ends_below = eb;
      taught = t;
    }

-- it keeps what every lore keeps, whatever schema it is the lore of
pub lore_known : (lore : List ℕ) → IsLore most_states lore → Known most_states lore
lore_known lore k = known_lore k.states k.rules k.ends lore k.few k.rules_below k.names_below k.ends_below k.taught

module _ (lore : List ℕ) (l : IsLore most_states lore) where
  -- the limits of its schema, by the number of states that the lore has
  pub lore_rules : RulesBelow (states_in lore) l.rules
  lore_rules = rw l.taught.states l.rules_below

  pub lore_ends : EndsBelow (states_in lore) l.ends
  lore_ends = rw l.taught.states l.ends_below

  -- the laws of its schema's relations
  abbrev pub lore_relations : Laws (relations most_states (states_in lore) l.rules l.ends)
  lore_relations =
      relations_laws most_states (states_in lore) (lore_known lore l).few l.rules l.ends lore_rules lore_ends

-- ---- of a lore that a call is given

-- its binoid's laws: composition and its unit are those of any schema of so many states, an element around a word is kept within them
abbrev pub taught_laws : (lore : List ℕ) → Known most_states lore → Laws (taught most_states lore)
taught_laws lore k =
    let L = relations_laws most_states (states_in lore) k.few [] [] (λ i h. absurd (omega arith)) (λ j h. absurd (omega arith)) in
    record {
      Good = Within most_states (states_in lore);
      good_unit = rw k.empty L.good_unit;
      good_compose = λ g h. L.good_compose g h;
      good_wrap = λ {a} {x} g. k.within a x;
      unit_left = λ g. rw k.empty (L.unit_left g);
      unit_right = λ g. rw k.empty (L.unit_right g);
      assoc = λ g h m. L.assoc g h m;
    }
