-- The two places of a rule's right side. A byte below 64 stands for a tag, one from 64 on for a nonterminal (`symbol_slot`); so a property
-- holds of every nonterminal of the right side exactly when it holds at both places (`right_slots`, by the rule's length). The code's test
-- of a place says that its nonterminal is marked. Assumes nothing.
use mathlib.Core.Path.{◌≡◌, refl}
use mathlib.Core.Logic.{◌↔◌}
use mathlib.Core.Bool.{Bool, true, false, false≢true, ◌&&◌}
use Rattle.std.specs.Prelude.{cond, leb, Some, None}
use mathlib.Core.List.{List, [], ◌∷◌, map}
use Prim.Native.Nat.{ℕ, zero, suc, ◌-◌, ◌≤◌, ◌<◌}
use native.Mathlib.Decide.{dec_lt}
use native.Mathlib.Omega.{arith}
use lib.Dec.{ltb}
use lib.ListN.{take}
use borrow.Author.Tests.{lt-ltb, le-ltb, le-leb, lt-leb}
use Rattle.numbers.specs.Fields.{field}
use Rattle.numbers.specs.Bits.{bit}
use Rattle.template.specs.Grammar.{Symbol, tag, nonterminal, symbol_of, right_side}
use Rattle.trees.proofs.MarkLaws.{AllNonterminals}
use Rattle.useful.specs.Marks.{AllMarked, at_slot, slot_marked}

-- ---- a property at a place of the right side

-- where the place is in use and its byte stands for a nonterminal, that has the property
abbrev pub Slot : (ℕ → Type 0) → Bool → ℕ → Type 0
Slot P used b = used ≡ true → 64 ≤ b → P (b - 64)

module _ (P : ℕ → Type 0) where
  pub slot_unused : (b : ℕ) → Slot P false b
  slot_unused b u h = absurd (false≢true u)

  symbol_slot : (b : ℕ) (ss : List Symbol) → AllNonterminals P (symbol_of b ∷ ss) ↔ (Slot P true b × AllNonterminals P ss)
  unfolding symbol_of
  symbol_slot b ss =
      elim (dec_lt b 32) [
        | yes l ↦ rw (lt-ltb b 32 l) (λ a. (λ u h. absurd (omega arith), a), λ (s, a). a)
        | no l ↦ elim (dec_lt b 64) [
          | yes k ↦ rw (le-ltb b 32 (omega arith), lt-ltb b 64 k) (λ a. (λ u h. absurd (omega arith), a), λ (s, a). a)
          | no k ↦ rw (le-ltb b 32 (omega arith), le-ltb b 64 (omega arith))
              (λ (p, a). (λ u h. p, a), λ (s, a). (s refl (omega arith), a))
        ]
      ]

  nothing_taken : (n : ℕ) → AllNonterminals P (map symbol_of (take n []))
  nothing_taken zero = tt
  nothing_taken (suc n) = tt

  bytes_slots : (n b d : ℕ) → AllNonterminals P (map symbol_of (take n (b ∷ d ∷ []))) ↔ (Slot P (ltb 0 n) b × Slot P (ltb 1 n) d)
  bytes_slots zero b d = (λ a. (slot_unused b, slot_unused d), λ s. tt)
  bytes_slots (suc zero) b d =
      let both = symbol_slot b [] in
      (λ a. ((both.0 a).0, slot_unused d), λ (s, u). both.1 (s, tt))
  bytes_slots (suc (suc n)) b d =
      let first = symbol_slot b (map symbol_of (d ∷ take n [])) in
      let second = symbol_slot d (map symbol_of (take n [])) in
      rw (lt-ltb 0 (suc (suc n)) (omega arith), lt-ltb 1 (suc (suc n)) (omega arith))
      (λ a. let (s, r) = first.0 a in (s, (second.0 r).0), λ (s, u). first.1 (s, second.1 (u, nothing_taken n)))

  pub right_slots : (rules : List ℕ) (i : ℕ)
      → AllNonterminals P (right_side rules i)
      ↔ (Slot P (ltb 0 (field rules i 1)) (field rules i 2) × Slot P (ltb 1 (field rules i 1)) (field rules i 3))
  unfolding right_side
  right_slots rules i = bytes_slots (field rules i 1) (field rules i 2) (field rules i 3)

-- ---- marks at a place

-- the nonterminal is marked
abbrev pub Marked : ℕ → ℕ → Type 0
Marked marks x = bit marks x ≡ true

pub marked_each : (marks : ℕ) (ss : List Symbol) → AllMarked (bit marks) ss ↔ AllNonterminals (Marked marks) ss
marked_each marks [] = (λ a. tt, λ a. tt)
marked_each marks (tag t ∷ ss) = marked_each marks ss
marked_each marks (nonterminal x ∷ ss) =
    let rest = marked_each marks ss in
    (λ (p, a). (p, rest.0 a), λ (p, a). (p, rest.1 a))

-- the test at a place
pub slot_test : (used : Bool) (b marks : ℕ) → (used ≡ true → b < 128)
    → (slot_marked used b marks ≡ true) ↔ Slot (Marked marks) used b
unfolding slot_marked at_slot
slot_test false b marks small = (λ e. slot_unused (Marked marks) b, λ s. refl)
slot_test true b marks small =
    elim (dec_lt b 64) [
      | yes l ↦ rw (lt-leb 64 b l) (λ e u h. absurd (omega arith), λ s. refl)
      | no l ↦ rw (le-leb 64 b (omega arith), lt-ltb b 128 (small refl)) (λ e u h. e, λ s. s refl (omega arith))
    ]

-- ---- the value in each arm of the code's branches at a place

module _ (A : Type 0) (b : ℕ) (x y : A) where
  pub slot_in : (used : Bool) (s : A) → s ≡ x → used ≡ true → 64 ≤ b → b < 128 → s ≡ at_slot used b x y
  unfolding at_slot
  slot_in used s e on low high = rw (on, le-leb 64 b low, lt-ltb b 128 high) e

  pub slot_past : (used : Bool) → 128 ≤ b → y ≡ at_slot used b x y
  unfolding at_slot
  slot_past true past = rw (le-leb 64 b (omega arith), le-ltb b 128 past)
  slot_past false past = refl

  pub slot_low : (used : Bool) → b < 64 → y ≡ at_slot used b x y
  unfolding at_slot
  slot_low true low = rw (lt-leb 64 b low)
  slot_low false low = refl

  pub slot_free : (used : Bool) → used ≡ false → y ≡ at_slot used b x y
  unfolding at_slot
  slot_free used off = rw off

-- ---- what the code makes of the nonterminal at a place

cond_some : (A : Type 0) (t : Bool) (x z : ℕ) (f : ℕ → A) (y : A) → Some x ≡ cond t (Some z) None → f x ≡ cond t (f z) y
cond_some A true x z f y e = cc
cond_some A false x z f y e = cc

cond_none : (A : Type 0) (t : Bool) (z : ℕ) (f : ℕ → A) (y : A) → None ≡ cond t (Some z) None → y ≡ cond t (f z) y
cond_none A true z f y e = cc
cond_none A false z f y e = refl

module _ (A : Type 0) (used : Bool) (b : ℕ) (f : ℕ → A) (y : A) where
  pub slot_some : (x : ℕ) → Some x ≡ at_slot used b (Some (b - 64)) None → f x ≡ at_slot used b (f (b - 64)) y
  unfolding at_slot
  slot_some x e = cond_some A (used && (leb 64 b && ltb b 128)) x (b - 64) f y e

  pub slot_none : None ≡ at_slot used b (Some (b - 64)) None → y ≡ at_slot used b (f (b - 64)) y
  unfolding at_slot
  slot_none e = cond_none A (used && (leb 64 b && ltb b 128)) (b - 64) f y e
