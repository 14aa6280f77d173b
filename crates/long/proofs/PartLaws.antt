-- A part as a rule. Its left side is the nonterminal for a rest. Where more than two symbols are left it has the next one and the
-- nonterminal for those behind it; else it has all that are left, since the bytes left are then the part's own (`last_two`, two bytes of
-- the list in a row). With what its nonterminals stand for put in their place it gives the rest in both cases (`part_stands`). Assumes
-- nothing.
use mathlib.Core.Path.{◌≡◌, refl, sym, ◌∙◌}
use mathlib.Core.List.{List, [], ◌∷◌, map, append-nil}
use Prim.Native.Nat.{ℕ, zero, suc, ◌+◌, ◌-◌, ◌*◌, ◌≤◌, ◌<◌, min}
use native.Mathlib.Decide.{dec_lt}
use native.Mathlib.Omega.{arith}
use lib.ListN.{length, get_or, take, drop}
use lib.Seq.{drop-cons}
use borrow.Author.Tests.{lt-ltb, le-ltb}
use Rattle.entries.specs.Entries.{rule_width}
use Rattle.template.specs.Grammar.{Symbol, nonterminal, symbol_of}
use Rattle.long.specs.Rules.{long_symbols, long_field, long_count, extra, rest_of, part, parts, LongRulesBelow}
use Rattle.long.proofs.SplitLaws.{expand}
use Rattle.long.proofs.RestLaws.{rest_side, stands_for, stands_old, stands_rest}

-- the left and the right side of a rule of four bytes
abbrev pub left_of : List ℕ → ℕ
left_of e = get_or e 0 0

abbrev pub side_of : List ℕ → List Symbol
side_of e = map symbol_of (take (get_or e 1 0) (get_or e 2 0 ∷ get_or e 3 0 ∷ []))

-- ---- symbols

symbol_nonterminal : (y : ℕ) → symbol_of (64 + y) ≡ nonterminal y
unfolding symbol_of
symbol_nonterminal y =
    let e : 64 + y - 64 ≡ y = omega arith in
    rw (le-ltb (64 + y) 32 (omega arith), le-ltb (64 + y) 64 (omega arith), e)

-- up to two bytes that follow each other in a list
last_two : (n at : ℕ) (l : List ℕ) → n ≤ 2 → at + 2 ≤ length l → take n (drop at l) ≡ take n (get_or l at 0 ∷ get_or l (suc at) 0 ∷ [])
last_two zero at l h k = refl
last_two (suc zero) at l h k = rw (drop-cons l at 0 (omega arith))
last_two (suc (suc zero)) at l h k = rw (drop-cons l at 0 (omega arith), drop-cons l (suc at) 0 (omega arith))
last_two (suc (suc (suc n))) at l h k = absurd (omega arith)

module _ (N : ℕ) (rules : List ℕ) where
  -- a symbol of the old grammar stands for itself
  expand_symbol : (b : ℕ) (ss : List Symbol) → b < 64 + N
      → expand (stands_for N rules) (symbol_of b ∷ ss) ≡ symbol_of b ∷ expand (stands_for N rules) ss
  unfolding symbol_of
  expand_symbol b ss h =
      elim (dec_lt b 32) [
        | yes k ↦ rw (lt-ltb b 32 k)
        | no k ↦ elim (dec_lt b 64) [
          | yes l ↦ rw (le-ltb b 32 (omega arith), lt-ltb b 64 l)
          | no l ↦ rw (le-ltb b 32 (omega arith), le-ltb b 64 (omega arith), stands_old rules N (b - 64) (omega arith))
        ]
      ]

  expand_two : (n a b : ℕ) → n ≤ 2 → (0 < n → a < 64 + N) → (1 < n → b < 64 + N)
      → expand (stands_for N rules) (map symbol_of (take n (a ∷ b ∷ []))) ≡ map symbol_of (take n (a ∷ b ∷ []))
  expand_two zero a b h f g = refl
  expand_two (suc zero) a b h f g = expand_symbol a [] (f (omega arith))
  expand_two (suc (suc zero)) a b h f g = rw (expand_symbol a (symbol_of b ∷ []) (f (omega arith)), expand_symbol b [] (g (omega arith)))
  expand_two (suc (suc (suc n))) a b h f g = absurd (omega arith)

  -- ---- a part of a rule

  pub part_left : (i t : ℕ) → left_of (part N rules i t) ≡ rest_of N rules i t
  unfolding part
  part_left i t = refl

  pub part_length : (i t : ℕ) → length (part N rules i t) ≡ 4
  unfolding part
  part_length i t = refl

  -- more than two symbols are left
  pub part_inner : (i t : ℕ) → t < extra rules i
      → side_of (part N rules i t) ≡ symbol_of (long_field rules i (2 + t)) ∷ nonterminal (rest_of N rules i (suc t)) ∷ []
  unfolding part
  part_inner i t h =
      let two : min 2 (long_field rules i 1) ≡ 2 = omega arith in
      rw (two, lt-ltb (t + 2) (long_field rules i 1) (omega arith), symbol_nonterminal (rest_of N rules i (suc t)))

  module _ (below : LongRulesBelow N rules) (i : ℕ) (h : i < long_count rules) where
    rule_fits : i * rule_width long_symbols + rule_width long_symbols ≤ length rules
    rule_fits = omega arith

    pub rest_next : (t : ℕ) → t < long_field rules i 1 → rest_side rules i t ≡ symbol_of (long_field rules i (2 + t)) ∷ rest_side rules i (suc t)
    unfolding rest_side long_field
    rest_next t k =
        let at = i * rule_width long_symbols + (2 + t) in
        let len = get_or rules (i * rule_width long_symbols + 1) 0 in
        let fits = below.length_within i h in
        let more : len - t ≡ suc (len - suc t) = omega arith in
        let next : suc at ≡ i * rule_width long_symbols + (2 + suc t) = omega arith in
        rw (drop-cons rules at 0 (omega (arith, rule_fits, fits)), more, next)

    -- no more than two are left: the part has these, and they are the rest
    module _ (t : ℕ) (e : t ≡ extra rules i) where
      abbrev left_side : List Symbol
      left_side = map symbol_of (take (long_field rules i 1 - t) (long_field rules i (2 + t) ∷ long_field rules i (3 + t) ∷ []))

      part_is : side_of (part N rules i t) ≡ left_side
      unfolding part
      part_is =
          let few : min 2 (long_field rules i 1) ≡ long_field rules i 1 - t = omega arith in
          rw (few, le-ltb (t + 2) (long_field rules i 1) (omega arith))

      rest_is : rest_side rules i t ≡ left_side
      unfolding rest_side long_field
      rest_is =
          let at = i * rule_width long_symbols + (2 + t) in
          let len = long_field rules i 1 in
          let fits = below.length_within i h in
          let next : suc at ≡ i * rule_width long_symbols + (3 + t) = omega arith in
          rw (last_two (len - t) at rules (omega arith) (omega (arith, rule_fits, fits)), next)

      pub part_last : side_of (part N rules i t) ≡ rest_side rules i t
      part_last = part_is ∙ sym rest_is

      last_stands : expand (stands_for N rules) (side_of (part N rules i t)) ≡ rest_side rules i t
      last_stands =
          let next : 2 + suc t ≡ 3 + t = omega arith in
          rw (part_is, rest_is)
          (expand_two (long_field rules i 1 - t) (long_field rules i (2 + t)) (long_field rules i (3 + t)) (omega arith)
          (λ k. below.symbol_below i t h (omega arith)) (λ k. rw next at (below.symbol_below i (suc t) h (omega arith))))

    inner_stands : (t : ℕ) → t < extra rules i → expand (stands_for N rules) (side_of (part N rules i t)) ≡ rest_side rules i t
    inner_stands t k =
        let b = long_field rules i (2 + t) in
        let rest = nonterminal (rest_of N rules i (suc t)) ∷ [] in
        rw (part_inner i t k, expand_symbol b rest (below.symbol_below i t h (omega arith)), stands_rest rules N i t h k, append-nil)
        (sym (rest_next t (omega arith)))

    pub part_stands : (t : ℕ) → t < parts rules i → expand (stands_for N rules) (side_of (part N rules i t)) ≡ rest_side rules i t
    part_stands t k =
        elim (dec_lt t (extra rules i)) [
          | yes l ↦ inner_stands t l
          | no l ↦ last_stands t (omega arith)
        ]
