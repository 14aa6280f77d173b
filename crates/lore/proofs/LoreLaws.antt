-- What the loops and calls of the code have, in the very words in which the code has it: the ending states as bits, the entries and the
-- leaves rule by rule, the join entry by entry. A rule changes the entry of its name and inner state and its name's leaf alone, for two
-- places are the same only where name and inner state are (`entry_next` is both steps: one place is joined with a pair, and each entry
-- gets the rule's pair exactly if its test passes); past the most names the list has ended, and the join is 0. Assumes nothing.
use mathlib.Core.Path.{◌≡◌, refl, sym, ap, ap₂, ◌∙◌}
use mathlib.Core.Bool.{Bool, true, false, ◌&&◌, cond}
use mathlib.Core.List.{List, []}
use Prim.Native.Nat.{ℕ, zero, suc, ◌+◌, ◌*◌, ◌/◌, ◌%◌, ◌^◌, ◌≤◌, ◌<◌}
use native.Mathlib.Numerals.{add-one}
use native.Mathlib.Omega.{arith}
use lib.Arith.{digits_div, digits_mod, digits_lt}
use lib.Bits.{bit_or, or_zero_r}
use lib.Dec.{eqb}
use lib.ListN.{length, get_or, set, length-set, length-replicate}
use lib.Seq.{get_or-set_same, get_or-set_other}
use lib.Pow.{pow-lt}
use borrow.Author.Rules.{rules}
use borrow.Author.Tests.{eqb-true, eqb-false, eq-eqb, ne_eqb}
use Rattle.std.proofs.lemmas.Bool.{and_parts}
use Rattle.std.proofs.lemmas.Nat.{one_shl}
use Rattle.numbers.specs.Bits.{any, number}
use Rattle.numbers.specs.Fields.{field}
use Rattle.words.specs.Tags.{most_names}
use Rattle.hedge.specs.Schema.{most_states, RulesBelow, EndsBelow}
use Rattle.hedge.specs.Operations.{one_pair, relation, unit, same, lowest}
use Rattle.numbers.proofs.TestLaws.{ext_true}
use Rattle.numbers.proofs.BitLaws.{number_lt, number_ext, number_none, number_or, bit_number, bit_pow}
use Rattle.hedge.proofs.RelationLaws.{relation_cong, relation_none, relation_one, relation_or}
use Rattle.lore.specs.Lore.{table_from, lore_long, marked, reads, outer, leaf_of, place_of, zeros, NamesBelow, Masks, Leaves, Known}
use Rattle.lore.proofs.TaughtLaws.{known_lore}
use Rattle.lore.specs.Lore.{Taught, ending_bits, empty_in, meets, met_entry, joined, taught_wrap, taught_accepts}

-- ---- the ending states as bits

number_of_one : (K v : ℕ) → v < K → 2 ^ v ≡ number K (λ t. eqb v t)
number_of_one K v h =
    number_ext K (2 ^ v) (number K (λ t. eqb v t)) (pow-lt h) (number_lt K (λ t. eqb v t))
    (λ k hk. bit_pow v k ∙ swapped k v ∙ sym (bit_number K (λ t. eqb v t) k hk))
  where
    swapped : (k v : ℕ) → eqb k v ≡ eqb v k
    swapped k v = ext_true (λ t. eq-eqb v k (sym (eqb-true k v t)), λ t. eq-eqb k v (sym (eqb-true v k t)))

pub marked_none : (K : ℕ) (ends : List ℕ) → 0 ≡ number K (marked ends 0)
unfolding marked any
marked_none K ends = sym (number_none K)

module _ (ends : List ℕ) (j : ℕ) (r : ℕ) (e : r ≡ number 8 (marked ends j)) where
  pub marked_next : EndsBelow 8 ends → j < length ends
      → bit_or r ((1 * 2 ^ get_or ends j 0) % 2 ^ 64) ≡ number 8 (marked ends (j + 1))
  unfolding marked any
  marked_next below hj =
      let h = below j hj in
      rw (e, one_shl (get_or ends j 0) 64 (omega arith), number_of_one 8 (get_or ends j 0) h, number_or, add-one)

  pub marked_end : (n : ℕ) → j ≤ n → n ≤ j → r ≡ number 8 (marked ends n)
  marked_end n h h' = let d : j ≡ n = omega arith in rw (← d) e

-- ---- the entries, rule by rule

pub zero_at : (n k : ℕ) → get_or (zeros n) k 0 ≡ 0
zero_at zero k = refl
zero_at (suc n) zero = refl
zero_at (suc n) (suc k) = zero_at n k

module _ (K : ℕ) (rules : List ℕ) where
  pub masks_none : (lore : List ℕ) → lore ≡ zeros (lore_long K) → Masks K rules 0 lore
  unfolding outer any
  masks_none lore z =
      record {
        long = rw z (length-replicate {A = ℕ} (lore_long K) 0);
        entries = λ a y ha hy. rw z (zero_at (lore_long K) (place_of K a y)) ∙ relation_none K;
      }

  pub leaves_none : (marks empty : ℕ) (lore : List ℕ) → lore ≡ zeros (lore_long K) → Leaves K marks empty rules 0 lore
  unfolding outer any
  leaves_none marks empty lore z =
      record { leaves = λ a ha. rw z (zero_at (lore_long K) (leaf_of a)) ∙ relation_none K }

  -- an entry at another place changes none of them
  masks_kept : (lore : List ℕ) (n k v : ℕ) → Masks K rules n lore → k < table_from → Masks K rules n (set lore k v)
  masks_kept lore n k v m h =
      record {
        long = length-set lore k v ∙ m.long;
        entries = λ a y ha hy. get_or-set_other lore k (place_of K a y) v 0 (omega arith) ∙ m.entries a y ha hy;
      }

  leaves_kept : (marks empty : ℕ) (lore : List ℕ) (n k v : ℕ) → Leaves K marks empty rules n lore
      → ((a : ℕ) → a < most_names → leaf_of a ≡ k → ⊥)
      → Leaves K marks empty rules n (set lore k v)
  leaves_kept marks empty lore n k v l apart =
      record { leaves = λ a ha. get_or-set_other lore k (leaf_of a) v 0 (apart a ha) ∙ l.leaves a ha }

  -- two places are the same only where name and inner state are
  place_name : (a y b u : ℕ) → y < K → u < K → place_of K a y ≡ place_of K b u → a ≡ b
  place_name a y b u hy hu e =
      let d : a * K + y ≡ b * K + u = omega arith in
      sym (digits_div a hy) ∙ ap (λ (n : ℕ). n / K) d ∙ digits_div b hu

  place_state : (a y b u : ℕ) → y < K → u < K → place_of K a y ≡ place_of K b u → y ≡ u
  place_state a y b u hy hu e =
      let d : a * K + y ≡ b * K + u = omega arith in
      sym (digits_mod a hy) ∙ ap (λ (n : ℕ). n % K) d ∙ digits_mod b hu

  module _ (i : ℕ) where
    -- the pair that rule i adds, where t holds
    abbrev added : Bool → ℕ
    added t = relation K (one_pair t (field rules i 0) (field rules i 3))

    added_none : 0 ≡ added false
    unfolding one_pair
    added_none = relation_none K

    -- what it adds to the rules of a name whose inner state passes, and to their entry at place k, where the place `at` is joined with s
    module _ (a : ℕ) (p : ℕ → Bool) where
      abbrev tested : Bool
      tested = eqb (field rules i 1) a && p (field rules i 2)

      outer_next : bit_or (relation K (outer rules a p i)) (added tested) ≡ relation K (outer rules a p (i + 1))
      unfolding outer any reads
      outer_next = relation_or K _ _ ∙ relation_cong K _ _ (λ x z hx hz. rw add-one)

      outer_same : tested ≡ false → relation K (outer rules a p i) ≡ relation K (outer rules a p (i + 1))
      outer_same e =
          sym (or_zero_r (relation K (outer rules a p i)))
          ∙ ap (bit_or (relation K (outer rules a p i))) (added_none ∙ ap added (sym e)) ∙ outer_next

      entry_next : (lore : List ℕ) (at s k : ℕ) → at < length lore → get_or lore k 0 ≡ relation K (outer rules a p i)
          → (k ≡ at → s ≡ added tested)
          → ((k ≡ at → ⊥) → tested ≡ false)
          → get_or (set lore at (bit_or (get_or lore at 0) s)) k 0 ≡ relation K (outer rules a p (i + 1))
      entry_next lore at s k h old here other = go (eqb k at) refl
        where
          go : (t : Bool) → eqb k at ≡ t → get_or (set lore at (bit_or (get_or lore at 0) s)) k 0 ≡ relation K (outer rules a p (i + 1))
          go true t =
              let e : k ≡ at = eqb-true k at t in
              ap (λ (n : ℕ). get_or (set lore at (bit_or (get_or lore at 0) s)) n 0) e
              ∙ get_or-set_same lore at (bit_or (get_or lore at 0) s) 0 h
              ∙ ap₂ bit_or (ap (λ (n : ℕ). get_or lore n 0) (sym e) ∙ old) (here e)
              ∙ outer_next
          go false f =
              let n = eqb-false k at f in
              get_or-set_other lore at k (bit_or (get_or lore at 0) s) 0 n ∙ old ∙ outer_same (other n)

    -- the rule's own name and inner state pass, and no other name; of another state's test the place tells
    named_test : (a : ℕ) (p : ℕ → Bool) → field rules i 1 ≡ a → tested a p ≡ p (field rules i 2)
    named_test a p e = rw (eq-eqb (field rules i 1) a e)

    other_test : (a : ℕ) (p : ℕ → Bool) → (field rules i 1 ≡ a → ⊥) → tested a p ≡ false
    other_test a p n = rw (ne_eqb (field rules i 1) a n)

    -- a pair at its place, and where t at its name's leaf, in the words of the code
    module _ (lore : List ℕ) (m : Masks K rules i lore) (below : RulesBelow K rules) (names : NamesBelow most_names rules)
        (hi : i < length rules / 4) (name y at pair : ℕ) (en : name ≡ field rules i 1) (ey : y ≡ field rules i 2)
        (ea : at ≡ place_of K name y) (ep : pair ≡ relation K (one_pair true (field rules i 0) (field rules i 3))) where
      name_lt : name < most_names
      name_lt = rw en (names i hi)

      y_lt : y < K
      y_lt = rw ey (below i hi).1

      here : (a u : ℕ) → u < K → place_of K a u ≡ at → pair ≡ added (tested a (λ v. eqb v u))
      here a u hu e =
          let da = place_name a u name y hu y_lt (e ∙ ea) in
          let du = place_state a u name y hu y_lt (e ∙ ea) in
          ep ∙ ap added (sym (named_test a (λ v. eqb v u) (sym (da ∙ en)) ∙ eq-eqb (field rules i 2) u (sym (du ∙ ey))))

      other : (a u : ℕ) → (place_of K a u ≡ at → ⊥) → tested a (λ v. eqb v u) ≡ false
      other a u n = apart (eqb (field rules i 1) a && eqb (field rules i 2) u) refl
        where
          apart : (t : Bool) → (eqb (field rules i 1) a && eqb (field rules i 2) u) ≡ t
              → (eqb (field rules i 1) a && eqb (field rules i 2) u) ≡ false
          apart false e = e
          apart true e =
              let (p, q) = and_parts (eqb (field rules i 1) a) _ e in
              let dp : name ≡ a = en ∙ eqb-true (field rules i 1) a p in
              let dq : y ≡ u = ey ∙ eqb-true (field rules i 2) u q in
              absurd (n (rw (← dp, ← dq) (sym ea)))

      module _ (marks empty : ℕ) (l : Leaves K marks empty rules i lore) (lore₁ lore₂ : List ℕ) (t : Bool) (leaf bare : ℕ)
          (e₁ : lore₁ ≡ set lore at (bit_or (get_or lore at 0) pair)) (e₂ : lore₂ ≡ set lore₁ leaf (bit_or (get_or lore₁ leaf 0) bare))
          (el : leaf ≡ leaf_of name) (et : t ≡ meets K empty marks y) (eb : bare ≡ cond t pair 0) where
        masks_first : Masks K rules (i + 1) lore₁
        masks_first =
            rw e₁
            (record {
              long = length-set lore at (bit_or (get_or lore at 0) pair) ∙ m.long;
              entries = λ a u ha hu.
                  entry_next a (λ v. eqb v u) lore at pair (place_of K a u) (rw (m.long, ea) (omega (arith, digits_lt name_lt y_lt)))
                  (m.entries a u ha hu) (here a u hu) (other a u);
            })

        pub masks_taught : Masks K rules (i + 1) lore₂
        masks_taught = rw e₂ (masks_kept lore₁ (i + 1) leaf _ masks_first (rw el (omega (arith, name_lt))))

        leaves_first : Leaves K marks empty rules i lore₁
        leaves_first = rw e₁ (leaves_kept marks empty lore i at (bit_or (get_or lore at 0) pair) l (λ a ha e. absurd (omega (arith, ea))))

        added_when : (t : Bool) → cond t pair 0 ≡ added t
        added_when true = ep
        added_when false = added_none

        leaf_here : (a : ℕ) → leaf_of a ≡ leaf → bare ≡ added (tested a (meets K empty marks))
        leaf_here a e =
            let d : field rules i 1 ≡ a = omega (arith, el, en) in
            eb ∙ added_when t ∙ ap added (et ∙ ap (meets K empty marks) ey ∙ sym (named_test a (meets K empty marks) d))

        leaf_other : (a : ℕ) → (leaf_of a ≡ leaf → ⊥) → tested a (meets K empty marks) ≡ false
        leaf_other a n = other_test a (meets K empty marks) (λ e. n (rw (el, en, e)))

        pub leaves_taught : Leaves K marks empty rules (i + 1) lore₂
        leaves_taught =
            rw e₂
            (record {
              leaves = λ a ha.
                  entry_next a (meets K empty marks) lore₁ leaf bare (leaf_of a) (rw (masks_first.long, el) (omega (arith, name_lt)))
                  (leaves_first.leaves a ha) (leaf_here a) (leaf_other a);
            })

-- what a leaf is joined with
pub bare_met : (t : Bool) (pair bare : ℕ) → t ≡ true → bare ≡ pair → bare ≡ cond t pair 0
bare_met t pair bare et eb = rw et eb

pub bare_unmet : (t : Bool) (pair bare : ℕ) → t ≡ false → bare ≡ 0 → bare ≡ cond t pair 0
bare_unmet t pair bare et eb = rw et eb

-- one pair
pub one_pair_is : (x z : ℕ) → x < 8 → z < 8 → (1 * 2 ^ (x * 8 + z)) % 2 ^ 64 ≡ relation 8 (one_pair true x z)
unfolding one_pair
one_pair_is x z hx hz = one_shl (x * 8 + z) 64 (digits_lt hx hz) ∙ relation_one 8 x z hx hz

-- ---- the join, entry by entry

module _ (K : ℕ) (lore : List ℕ) (a r : ℕ) where
  pub joined_none : 0 ≡ joined K lore a r 0
  unfolding joined
  joined_none = refl

  pub joined_next : (y p s : ℕ) → p ≡ joined K lore a r y → s ≡ bit_or p (met_entry K lore a r y) → s ≡ joined K lore a r (y + 1)
  unfolding joined
  joined_next y p s ep es = rw (add-one, ← ep) es

  pub joined_end : (y p : ℕ) → p ≡ joined K lore a r y → y ≤ K → K ≤ y → p ≡ taught_wrap K lore a r
  unfolding taught_wrap
  joined_end y p e h h' = let d : y ≡ K = omega arith in e ∙ ap (joined K lore a r) d

-- one entry, in the words of the code
module _ (K a r y e p : ℕ) (lore : List ℕ) (b : Bool) (eb : b ≡ meets K r e y) (ee : e ≡ get_or lore 1 0) where
  pub entry_met : (k v : ℕ) → b ≡ true → k ≡ place_of K a y → v ≡ get_or lore k 0 → bit_or p v ≡ bit_or p (met_entry K lore a r y)
  unfolding met_entry
  entry_met k v t ek ev = rw (← ee, ← eb, t, ev, ek)

  pub entry_unmet : b ≡ false → p ≡ bit_or p (met_entry K lore a r y)
  unfolding met_entry
  entry_unmet f = rw (← ee, ← eb, f) (sym (or_zero_r p))

-- past the names nothing is there; the leaf
pub unnamed_is : (a r : ℕ) (lore : List ℕ) → Known most_states lore → most_names ≤ a → 0 ≡ taught_wrap most_states lore a r
unnamed_is a r lore k h = sym (k.unnamed a r h)

pub leaf_wrap : (a r k : ℕ) (lore : List ℕ) → Known most_states lore → a < most_names
    → r ≡ empty_in lore
    → k ≡ leaf_of a
    → get_or lore k 0 ≡ taught_wrap most_states lore a r
leaf_wrap a r k lore l h er ek = rw (ek, er) (l.leaves a h)

-- ---- acceptance, in the words of the code

pub accepts_is : (K r e : ℕ) (lore : List ℕ) (t : Bool) → t ≡ meets K r e 0 → e ≡ ending_bits lore → t ≡ taught_accepts K lore r
unfolding taught_accepts
accepts_is K r e lore t et ee = rw (et, ee)

-- ---- before it is taught

-- zeros are the lore of no state and no rule
no_state : ◌≡◌ {A = ℕ} 0 (unit most_states 0)
unfolding unit same relation lowest number
no_state = refl

untaught : Taught most_states 0 [] [] (zeros (lore_long most_states))
untaught =
    record {
      states = refl;
      endings = marked_none most_states [];
      empty = no_state;
      masks = masks_none most_states [] (zeros (lore_long most_states)) refl;
      leaves = leaves_none most_states [] _ _ (zeros (lore_long most_states)) refl;
    }

pub untaught_known : Known most_states (zeros (lore_long most_states))
untaught_known =
    known_lore 0 [] [] (zeros (lore_long most_states)) (omega arith) (λ i h. absurd (omega arith)) (λ i h. absurd (omega arith))
    (λ j h. absurd (omega arith)) untaught

pub ruleset lores = (
  marked_none,
  marked_next,
  marked_end,
  masks_none,
  masks_taught,
  leaves_none,
  leaves_taught,
  bare_met,
  bare_unmet,
  one_pair_is,
  joined_none,
  joined_next,
  joined_end,
  entry_met,
  entry_unmet,
  unnamed_is,
  leaf_wrap,
  accepts_is,
  rules,
)
