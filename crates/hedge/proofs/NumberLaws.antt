-- Relations as numbers are a way to hold the relations of a schema's words, at any width K of a row and any number q ≤ K of states: the
-- members of the operations are in RelationLaws.antt, and what is left is that they stay within the q states. So the laws of the binoid
-- hold, the value of a balanced word is its relation, and `accepts` tells whether state 0 derives it. Assumes nothing.
use mathlib.Core.Path.{◌≡◌}
use mathlib.Core.Logic.{◌↔◌}
use mathlib.Core.Bool.{true}
use mathlib.Core.List.{List}
use Prim.Native.Nat.{ℕ, ◌/◌, ◌≤◌, ◌<◌}
use native.Mathlib.Nat.{lt_of_lt_of_le}
use native.Mathlib.Omega.{arith}
use lib.ListN.{length}
use Rattle.words.specs.Tags.{Tag}
use Rattle.words.specs.Binoid.{Laws, Value}
use Rattle.words.proofs.ValueLaws.{value_good}
use Rattle.hedge.specs.Schema.{Schema, Derives, schema_from, RulesBelow, EndsBelow}
use Rattle.hedge.specs.Relation.{has, RelationOf, Within}
use Rattle.hedge.specs.Operations.{same, linked, wrapped, unit, compose, wrap, relations, accepts}
use Rattle.numbers.proofs.TestLaws.{ext_true}
use Rattle.hedge.proofs.RelationLaws.{relation_lt, relation_ext, ended_members, unit_members, compose_members, wrap_members}
use Rattle.hedge.proofs.Relates.{Relates, relates_laws, value_relation, value_derived}

-- the pair (x, z) is in the relation r
abbrev pub Member : ℕ → ℕ → ℕ → ℕ → Type 0
Member K r x z = (x < K) × (z < K) × (has K r x z ≡ true)

-- ---- the relation of a word is one number

pub relation_unique : (K : ℕ) {S : Schema} {w : List Tag} {r s : ℕ} → RelationOf K S w r → RelationOf K S w s → r ≡ s
relation_unique K {r = r} {s = s} p q =
    relation_ext K r s p.small q.small
    (λ x z hx hz. ext_true (
      λ t. (q.members x z hx hz).1 ((p.members x z hx hz).0 t),
      λ t. (p.members x z hx hz).1 ((q.members x z hx hz).0 t),
    ))

module _ (K q : ℕ) (fits : q ≤ K) where
  in_width : {y : ℕ} → y < q → y < K
  in_width h = lt_of_lt_of_le h fits

  -- ---- members that are equal make equal numbers

  pub within_same : (r s : ℕ) → Within K q r → Within K q s → ((x z : ℕ) → Member K r x z ↔ Member K s x z) → r ≡ s
  within_same r s g k e =
      relation_ext K r s g.small k.small
      (λ x z hx hz. ext_true (λ t. ((e x z).0 (hx, hz, t)).2, λ t. ((e x z).1 (hx, hz, t)).2))

  -- ---- the unit and composition

  pub within_unit : Within K q (unit K q)
  unfolding unit
  within_unit =
      record {
        small = relation_lt K (same q);
        states = λ x z hx hz t.
            let (e, h) = (unit_members K q x z hx hz).0 t in
            (h, rw (← e) h);
      }

  pub within_compose : (r s : ℕ) → Within K q r → Within K q s → Within K q (compose K q r s)
  unfolding compose
  within_compose r s g k =
      record {
        small = relation_lt K (linked q (has K r) (has K s));
        states = λ x z hx hz t.
            let (y, hy, u, v) = (compose_members K q r s x z hx hz).0 t in
            ((g.states x y hx (in_width hy) u).0, (k.states y z (in_width hy) hz v).1);
      }

  pub unit_pairs : (x z : ℕ) → Member K (unit K q) x z ↔ ((x ≡ z) × (x < q))
  unit_pairs x z = (
    λ m. let (hx, hz, t) = m in (unit_members K q x z hx hz).0 t,
    λ m.
        let (e, h) = m in
        let hz : z < q = rw (← e) h in
        (in_width h, in_width hz, (unit_members K q x z (in_width h) (in_width hz)).1 (e, h)),
  )

  pub compose_pairs : (r s x z : ℕ) → Within K q r
      → Member K (compose K q r s) x z ↔ ((y : ℕ) × Member K r x y × Member K s y z)
  compose_pairs r s x z g = (
    λ m.
        let (hx, hz, t) = m in
        let (y, hy, u, v) = (compose_members K q r s x z hx hz).0 t in
        (y, (hx, in_width hy, u), (in_width hy, hz, v)),
    λ m.
        let (y, (hx, hy, u), (_, hz, v)) = m in
        (hx, hz, (compose_members K q r s x z hx hz).1 (y, (g.states x y hx hy u).1, u, v)),
  )

  module _ (rules ends : List ℕ) (rules_below : RulesBelow q rules) (ends_below : EndsBelow q ends) where
    -- ---- an element

    rule_states_below : {x a y z : ℕ} → (schema_from q rules ends).Rule x a y z → (x < q) × (y < q) × (z < q)
    rule_states_below (i, hi, ex, ea, ey, ez) =
        let (hx, hy, hz) = rules_below i hi in
        (rw (← ex) hx, rw (← ey) hy, rw (← ez) hz)

    pub ending_below : (t : ℕ) → (schema_from q rules ends).Ending t → t < q
    ending_below t (j, hj, e) = rw (← e) (ends_below j hj)

    pub within_wrap : (a r : ℕ) → Within K q (wrap K rules ends a r)
    unfolding wrap
    within_wrap a r =
        record {
          small = relation_lt K (wrapped rules ends a (has K r) (length rules / 4));
          states = λ x z hx hz u.
              let (y, t, rule, p, e) = (wrap_members K q rules ends a r x z hx hz).0 u in
              ((rule_states_below rule).0, (rule_states_below rule).2);
        }

    pub wrap_pairs : (a r x z : ℕ)
        → Member K (wrap K rules ends a r) x z
        ↔ ((y t : ℕ) × (schema_from q rules ends).Rule x a y z × Member K r y t × (schema_from q rules ends).Ending t)
    wrap_pairs a r x z = (
      λ m.
          let (hx, hz, u) = m in
          let (y, t, rule, p, e) = (wrap_members K q rules ends a r x z hx hz).0 u in
          (y, t, rule, (in_width (rule_states_below rule).1, in_width (ending_below t e), p), e),
      λ m.
          let (y, t, rule, (hy, ht, p), e) = m in
          let hx : x < K = in_width (rule_states_below rule).0 in
          let hz : z < K = in_width (rule_states_below rule).2 in
          (hx, hz, (wrap_members K q rules ends a r x z hx hz).1 (y, t, rule, p, e)),
    )

    -- ---- the instance

    abbrev pub relations_relate : Relates (relations K q rules ends) (schema_from q rules ends)
    relations_relate =
        record {
          Good = Within K q;
          Has = Member K;
          good_unit = within_unit;
          good_compose = λ {r} {s} g k. within_compose r s g k;
          good_wrap = λ {a} {r} g. within_wrap a r;
          has_below = λ {r} {x} {z} g h. g.states x z h.0 h.1 h.2;
          has_unit = λ {x} {z}. unit_pairs x z;
          has_compose = λ {r} {s} {x} {z} g k. compose_pairs r s x z g;
          has_wrap = λ {a} {r} {x} {z} g. wrap_pairs a r x z;
          same = λ {r} {s} g k e. within_same r s g k e;
          ending_below = ending_below;
        }

    abbrev pub relations_laws : Laws (relations K q rules ends)
    relations_laws = relates_laws relations_relate

    -- ---- the value of a balanced word

    pub relation_of_value : {w : List Tag} {r : ℕ} → Value (relations K q rules ends) w r
        → RelationOf K (schema_from q rules ends) w r
    relation_of_value p =
        record {
          small = (value_good (relations K q rules ends) relations_laws p).small;
          members = λ x z hx hz. (
            λ t. (value_relation relations_relate p x z).0 (hx, hz, t),
            λ l. ((value_relation relations_relate p x z).1 l).2,
          );
        }

    -- ---- acceptance

    pub derives_accepts : {w : List Tag} {r : ℕ} → Value (relations K q rules ends) w r
        → (accepts K ends r ≡ true) ↔ Derives (schema_from q rules ends) 0 w
    unfolding accepts
    derives_accepts {r = r} p = (
      λ u.
          let (t, h, e) = (ended_members q rules ends (has K r) 0).0 u in
          let ht : t < K = in_width (ending_below t e) in
          (value_derived relations_relate p 0).1 (t, (omega arith, ht, h), e),
      λ d.
          let (t, (_, _, h), e) = (value_derived relations_relate p 0).0 d in
          (ended_members q rules ends (has K r) 0).1 (t, h, e),
    )
