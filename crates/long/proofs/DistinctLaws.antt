-- No two parts of a sound file of long rules are equal. The left side of a later part has its own rule and place, and is no old
-- nonterminal. The first part of a rule with more than two symbols ends with a nonterminal that is that rule's own, and new. The first part
-- of a rule with at most two symbols has all that the rule has (`few_few`), and the rules of a sound file are different, since they
-- ascend. So the list of all parts has none twice. Assumes nothing.
use mathlib.Core.Path.{◌≡◌, refl, sym, ◌∙◌, ap}
use mathlib.Core.List.{List, Memᴰ}
use Prim.Native.Nat.{ℕ, zero, suc, ◌+◌, ◌*◌, ◌≤◌, ◌<◌, min}
use native.Mathlib.Decide.{dec_lt}
use native.Mathlib.Omega.{arith}
use lib.ListN.{length, get_or, drop, length-drop}
use lib.Seq.{length-take-le, get_or-take, get_or-drop, ext_get_or}
use borrow.Author.Tests.{eqb-true, lt-ltb, le-ltb}
use Rattle.entries.specs.Entries.{rule_width}
use Rattle.template.specs.Layout.{nonterminals, rule_count, template_rules_of}
use Rattle.template.proofs.SoundLaws.{SoundFileOf}
use Rattle.entries.proofs.EntryLaws.{entry}
use Rattle.template.proofs.ListLaws.{rules_length}
use Rattle.template.proofs.AscendingLaws.{rules_ascending}
use Rattle.trees.specs.Events.{Distinct, distinct_none}
use Rattle.save.proofs.AscendLaws.{ascending_once}
use Rattle.long.specs.Rules.{long_symbols, long_field, rest_of, part, parts, all_parts}
use Rattle.long.proofs.NumberLaws.{rest_new, rest_unique}
use Rattle.long.proofs.ListedLaws.{listed, listed_out, listed_distinct, distinct_append}
use Rattle.long.proofs.CountLaws.{all_parts_next, all_parts_out}
use Rattle.long.proofs.BelowLaws.{long_left, long_symbol, long_symbol_below}

-- the left sides of equal parts
lefts_same : (N : ℕ) (rules : List ℕ) (i j t u : ℕ) → part N rules i t ≡ part N rules j u → rest_of N rules i t ≡ rest_of N rules j u
unfolding part
lefts_same N rules i j t u e = ap (λ p. get_or p 0 0) e

module _ (f : List ℕ) (s : SoundFileOf long_symbols f) where
  abbrev rules : List ℕ
  rules = template_rules_of long_symbols f

  abbrev N : ℕ
  N = nonterminals f

  -- ---- a rule as bytes

  rule_length : (i : ℕ) → i < rule_count f → length (entry (rule_width long_symbols) rules i) ≡ rule_width long_symbols
  rule_length i h =
      let e = length-drop (rule_width long_symbols * i) rules in
      length-take-le (rule_width long_symbols) (drop (rule_width long_symbols * i) rules) (rw e (omega (arith, rules_length f s)))

  rule_byte : (i p : ℕ) → p < rule_width long_symbols → get_or (entry (rule_width long_symbols) rules i) p 0 ≡ long_field rules i p
  unfolding long_field
  rule_byte i p h =
      let wide = rule_width long_symbols in
      let at : wide * i + p ≡ i * wide + p = omega arith in
      rw (get_or-take wide (drop (wide * i) rules) p 0 h, get_or-drop (wide * i) rules p 0, at)

  rule_unique : (i j : ℕ) → i < rule_count f → j < rule_count f
      → ((p : ℕ) → p < rule_width long_symbols → long_field rules i p ≡ long_field rules j p) → i ≡ j
  rule_unique i j h k same =
      let wide = rule_width long_symbols in
      let bytes : (p : ℕ) → p < length (entry wide rules i) → get_or (entry wide rules i) p 0 ≡ get_or (entry wide rules j) p 0 = λ p l.
      let m : p < wide = rw (rule_length i h) at l in
      rw (rule_byte i p m, rule_byte j p m) (same p m) in
      ascending_once wide (rule_count f) rules (rules_ascending f s) i j h k
      (ext_get_or 0 (entry wide rules i) (entry wide rules j) (rule_length i h ∙ sym (rule_length j k)) bytes)

  -- an unused symbol
  rule_unused : (i j : ℕ) → i < rule_count f → j < long_symbols → long_field rules i 1 ≤ j → long_field rules i (2 + j) ≡ 255
  rule_unused i j h k l = eqb-true (long_field rules i (2 + j)) 255 (rw (le-ltb j (long_field rules i 1) l) at (long_symbol f s i j h k))

  -- ---- the first part of a rule: more than two symbols, or what the rule has

  first_more : (i : ℕ) → 2 < long_field rules i 1 → get_or (part N rules i 0) 3 0 ≡ 64 + rest_of N rules i 1
  unfolding part
  first_more i h = rw (lt-ltb (0 + 2) (long_field rules i 1) (omega arith))

  first_few : (i : ℕ) → long_field rules i 1 ≤ 2 → get_or (part N rules i 0) 3 0 ≡ long_field rules i 3
  unfolding part
  first_few i h = rw (le-ltb (0 + 2) (long_field rules i 1) (omega arith))

  module _ (i j : ℕ) (h : i < rule_count f) (k : j < rule_count f) (e : part N rules i 0 ≡ part N rules j 0) where
    counts_same : min 2 (long_field rules i 1) ≡ min 2 (long_field rules j 1)
    unfolding part
    counts_same = ap (λ p. get_or p 1 0) e

    symbols_same : long_field rules i 2 ≡ long_field rules j 2
    unfolding part
    symbols_same = ap (λ p. get_or p 2 0) e

    lasts_same : get_or (part N rules i 0) 3 0 ≡ get_or (part N rules j 0) 3 0
    lasts_same = ap (λ p. get_or p 3 0) e

    many_few : 2 < long_field rules i 1 → long_field rules j 1 ≤ 2 → ⊥
    many_few l m =
        let same : 64 + rest_of N rules i 1 ≡ long_field rules j (2 + 1) = sym (first_more i l) ∙ lasts_same ∙ first_few j m in
        let old = long_symbol_below f s j 1 k (omega (arith, counts_same)) in
        omega (arith, rest_new rules N i 0, old, same)

    many_many : 2 < long_field rules i 1 → 2 < long_field rules j 1 → i ≡ j
    many_many l m =
        let same : 64 + rest_of N rules i 1 ≡ 64 + rest_of N rules j 1 = sym (first_more i l) ∙ lasts_same ∙ first_more j m in
        (rest_unique rules N i j 0 0 (omega arith) (omega arith) (omega arith)).0

    few_few : long_field rules i 1 ≤ 2 → long_field rules j 1 ≤ 2 → (p : ℕ) → p < rule_width long_symbols
        → long_field rules i p ≡ long_field rules j p
    unfolding rest_of
    few_few l m zero o = lefts_same N rules i j 0 0 e
    few_few l m (suc zero) o = omega (arith, counts_same)
    few_few l m (suc (suc zero)) o = symbols_same
    few_few l m (suc (suc (suc zero))) o = sym (first_few i l) ∙ lasts_same ∙ first_few j m
    few_few l m (suc (suc (suc (suc p)))) o =
        let there : 2 + suc (suc p) ≡ suc (suc (suc (suc p))) = omega arith in
        let left = rule_unused i (suc (suc p)) h (omega arith) (omega arith) in
        let right = rule_unused j (suc (suc p)) k (omega arith) (omega arith) in
        rw there at (left ∙ sym right)

  first_unique : (i j : ℕ) → i < rule_count f → j < rule_count f → part N rules i 0 ≡ part N rules j 0 → i ≡ j
  first_unique i j h k e =
      elim (dec_lt 2 (long_field rules i 1)) [
        | yes l ↦ elim (dec_lt 2 (long_field rules j 1)) [
          | yes m ↦ many_many i j h k e l m
          | no m ↦ absurd (many_few i j h k e l (omega arith))
        ]
        | no l ↦ elim (dec_lt 2 (long_field rules j 1)) [
          | yes m ↦ absurd (many_few j i k h (sym e) m (omega arith))
          | no m ↦ rule_unique i j h k (few_few i j h k e (omega arith) (omega arith))
        ]
      ]

  -- ---- all parts

  first_later : (i j u : ℕ) → i < rule_count f → part N rules i 0 ≡ part N rules j (suc u) → ⊥
  unfolding rest_of
  first_later i j u h e = omega (arith, long_left f s i h, rest_new rules N j u, lefts_same N rules i j 0 (suc u) e)

  pub parts_distinct : (i j t u : ℕ) → i < rule_count f → j < rule_count f → t < parts rules i → u < parts rules j
      → part N rules i t ≡ part N rules j u → (i ≡ j) × (t ≡ u)
  parts_distinct i j zero zero h k a b e = (first_unique i j h k e, refl)
  parts_distinct i j zero (suc u) h k a b e = absurd (first_later i j u h e)
  parts_distinct i j (suc t) zero h k a b e = absurd (first_later j i t k (sym e))
  parts_distinct i j (suc t) (suc u) h k a b e =
      let (same, place) = rest_unique rules N i j t u (omega arith) (omega arith) (lefts_same N rules i j (suc t) (suc u) e) in
      (same, ap suc place)

  rule_parts_distinct : (i : ℕ) → i < rule_count f → Distinct (listed (part N rules i) (parts rules i))
  rule_parts_distinct i h = listed_distinct (part N rules i) (parts rules i) (λ t u a b e. (parts_distinct i i t u h h a b e).1)

  pub all_parts_distinct : (n : ℕ) → n ≤ rule_count f → Distinct (all_parts N rules n)
  unfolding all_parts
  all_parts_distinct zero h = distinct_none
  all_parts_distinct (suc n) h =
      let own = listed (part N rules n) (parts rules n) in
      let apart : (e : List ℕ) → Memᴰ e (all_parts N rules n) → Memᴰ e own → ⊥ = λ e m k.
      let (i, t, l, a, d) = all_parts_out N rules n e m in
      let (u, b, g) = listed_out (part N rules n) (parts rules n) e k in
      omega (arith, (parts_distinct i n t u (omega arith) (omega arith) a b (sym d ∙ g)).0) in
      rw (all_parts_next N rules n) (distinct_append (all_parts_distinct n (omega arith)) (rule_parts_distinct n (omega arith)) apart)
