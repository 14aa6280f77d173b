-- What the nonterminals of the parts stand for: an old one for itself, a new one for the symbols of its rule behind its place there.
-- `rest_at` looks the rule up from the last one down; it finds it by induction on the rules, since the rules before have lower numbers.
-- Assumes nothing.
use mathlib.Core.Path.{◌≡◌}
use mathlib.Core.Bool.{cond}
use mathlib.Core.List.{List, [], ◌∷◌, map}
use Prim.Native.Nat.{ℕ, zero, suc, ◌+◌, ◌-◌, ◌*◌, ◌<◌}
use native.Mathlib.Decide.{dec_lt}
use native.Mathlib.Omega.{arith}
use lib.Dec.{ltb}
use lib.ListN.{take, drop}
use borrow.Author.Tests.{lt-ltb, le-ltb}
use Rattle.entries.specs.Entries.{rule_width}
use Rattle.template.specs.Grammar.{Symbol, nonterminal, symbol_of}
use Rattle.long.specs.Rules.{long_symbols, long_field, long_count, long_side, extra, extras, rest_of}
use Rattle.long.proofs.NumberLaws.{extras_before}

-- the symbols of rule i behind its first t
unfoldable pub rest_side : List ℕ → ℕ → ℕ → List Symbol
rest_side rules i t = map symbol_of (take (long_field rules i 1 - t) (drop (i * rule_width long_symbols + (2 + t)) rules))

-- what the new nonterminal with this number stands for, looked up in the first n rules
unfoldable pub rest_at : List ℕ → ℕ → ℕ → List Symbol
rest_at rules zero k = []
rest_at rules (suc n) k = cond (ltb k (extras rules n)) (rest_at rules n k) (rest_side rules n (suc (k - extras rules n)))

-- what a nonterminal stands for: an old one for itself
unfoldable pub stands_for : ℕ → List ℕ → ℕ → List Symbol
stands_for N rules x = cond (ltb x N) (nonterminal x ∷ []) (rest_at rules (long_count rules) (x - N))

module _ (rules : List ℕ) where
  pub rest_whole : (i : ℕ) → rest_side rules i 0 ≡ long_side rules i
  unfolding rest_side long_side
  rest_whole i = let e : long_field rules i 1 - 0 ≡ long_field rules i 1 = omega arith in rw e

  -- ---- new nonterminals

  pub rest-at : (n i t : ℕ) → i < n → t < extra rules i → rest_at rules n (extras rules i + t) ≡ rest_side rules i (suc t)
  unfolding rest_at
  rest-at zero i t h k = absurd (omega arith)
  rest-at (suc n) i t h k =
      elim (dec_lt i n) [
        | yes l ↦ rw (lt-ltb (extras rules i + t) (extras rules n) (omega (arith, extras_before rules i n l))) (rest-at n i t l k)
        | no l ↦
            let e : i ≡ n = omega arith in
            let place : extras rules n + t - extras rules n ≡ t = omega arith in
            rw (e, le-ltb (extras rules n + t) (extras rules n) (omega arith), place)
      ]

  module _ (N : ℕ) where
    pub stands_old : (x : ℕ) → x < N → stands_for N rules x ≡ nonterminal x ∷ []
    unfolding stands_for
    stands_old x h = rw (lt-ltb x N h)

    pub stands_rest : (i t : ℕ) → i < long_count rules → t < extra rules i
        → stands_for N rules (rest_of N rules i (suc t)) ≡ rest_side rules i (suc t)
    unfolding stands_for rest_of
    stands_rest i t h k =
        let place : N + extras rules i + t - N ≡ extras rules i + t = omega arith in
        rw (le-ltb (N + extras rules i + t) N (omega arith), place) (rest-at (long_count rules) i t h k)
