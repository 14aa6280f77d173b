-- The numbers of the new nonterminals. Rules before a rule have theirs before its own (`extras_before`, by induction on the rules). So each
-- number belongs to one rule and one place in it: `extras_place` finds them by induction on the rules, `extras_unique` compares the rules.
-- The new nonterminals go from N on without a gap (`rest_new`, `rest_below`, `rest_found`), all different. Assumes nothing.
use mathlib.Core.Path.{◌≡◌}
use mathlib.Core.List.{List}
use Prim.Native.Nat.{ℕ, zero, suc, ◌+◌, ◌-◌, ◌≤◌, ◌<◌}
use native.Mathlib.Decide.{dec_lt}
use native.Mathlib.Omega.{arith}
use Rattle.long.specs.Rules.{long_field, long_count, extra, extras, rest_of, parts}

module _ (rules : List ℕ) where
  pub extras_before : (i n : ℕ) → i < n → extras rules i + extra rules i ≤ extras rules n
  unfolding extras
  extras_before i zero h = absurd (omega arith)
  extras_before i (suc n) h =
      elim (dec_lt i n) [
        | yes k ↦ omega (arith, extras_before i n k)
        | no k ↦ let e : i ≡ n = omega arith in rw e (omega arith)
      ]

  -- each number belongs to a rule and a place in it, and to no other
  pub extras_place : (n k : ℕ) → k < extras rules n → (i t : ℕ) × (i < n) × (t < extra rules i) × (k ≡ extras rules i + t)
  unfolding extras
  extras_place zero k h = absurd (omega arith)
  extras_place (suc n) k h =
      elim (dec_lt k (extras rules n)) [
        | yes l ↦ let (i, t, a, b, e) = extras_place n k l in (i, t, omega arith, b, e)
        | no l ↦ (n, k - extras rules n, omega arith, omega arith, omega arith)
      ]

  pub extras_unique : (i j t u : ℕ) → t < extra rules i → u < extra rules j → extras rules i + t ≡ extras rules j + u → (i ≡ j) × (t ≡ u)
  extras_unique i j t u h k e =
      elim (dec_lt i j) [
        | yes l ↦ absurd (omega (arith, extras_before i j l))
        | no l ↦ elim (dec_lt j i) [
          | yes m ↦ absurd (omega (arith, extras_before j i m))
          | no m ↦
              let same : i ≡ j = omega arith in
              let place : extras rules j + t ≡ extras rules j + u = rw same at e in
              (same, omega arith)
        ]
      ]

  -- the new nonterminals
  module _ (N : ℕ) where
    pub rest_new : (i t : ℕ) → N ≤ rest_of N rules i (suc t)
    unfolding rest_of
    rest_new i t = omega arith

    pub rest_below : (i t : ℕ) → i < long_count rules → t < extra rules i → rest_of N rules i (suc t) < N + extras rules (long_count rules)
    unfolding rest_of
    rest_below i t h k = omega (arith, extras_before i (long_count rules) h)

    pub left_below : (i t : ℕ) → long_field rules i 0 < N → i < long_count rules → t < parts rules i
        → rest_of N rules i t < N + extras rules (long_count rules)
    unfolding rest_of
    left_below i zero l h k = omega arith
    left_below i (suc t) l h k = omega (arith, extras_before i (long_count rules) h)

    pub rest_unique : (i j t u : ℕ) → t < extra rules i → u < extra rules j → rest_of N rules i (suc t) ≡ rest_of N rules j (suc u)
        → (i ≡ j) × (t ≡ u)
    unfolding rest_of
    rest_unique i j t u h k e = extras_unique i j t u h k (omega arith)

    pub rest_found : (x : ℕ) → N ≤ x → x < N + extras rules (long_count rules)
        → (i t : ℕ) × (i < long_count rules) × (t < extra rules i) × (x ≡ rest_of N rules i (suc t))
    unfolding rest_of
    rest_found x h k =
        let (i, t, a, b, e) = extras_place (long_count rules) (x - N) (omega arith) in
        (i, t, a, b, omega arith)
