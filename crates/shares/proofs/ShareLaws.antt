-- Rules with the same right side (specs/Shares.antt). The marks of a rule tell whether it is the first useful one with its right side, so
-- that for each useful rule the first is found by a search from below. Assumes nothing.
use mathlib.Core.Path.{◌≡◌, refl, sym, ◌∙◌}
use mathlib.Core.Bool.{Bool, true, false, false≢true}
use mathlib.Core.List.{List}
use mathlib.Core.Logic.{◌↔◌, ◌⊎◌, inl, inr, ⊎_elim}
use Prim.Native.Nat.{ℕ, zero, suc, ◌+◌, ◌/◌, ◌≤◌, ◌<◌}
use native.Mathlib.Decide.{ℕ_discrete, dec_lt}
use native.Mathlib.Omega.{arith}
use lib.Dec.{ltb}
use lib.ListN.{length, get_or}
use borrow.Author.Tests.{lt-ltb}
use Rattle.numbers.specs.Fields.{field}
use Rattle.numbers.specs.Bits.{bit}
use Rattle.numbers.proofs.BitLaws.{bit_past}
use Rattle.template.specs.Grammar.{Gives, right_side}
use Rattle.trees.specs.Trees.{Useful}
use Rattle.useful.specs.Marks.{RulesInRange}
use Rattle.shares.specs.Shares.{SameRight, UsefulRule, FirstUseful, SharesRight, Sharing, Shares}

-- ---- bits

-- nothing has no bits
pub nothing_bit : (x : ℕ) → bit 0 x ≡ true → ⊥
nothing_bit x b = false≢true (sym (bit_past 0 0 x (omega arith) (omega arith)) ∙ b)

-- a number with a bit is not 0
pub marks_some : (marks x : ℕ) → bit marks x ≡ true → ltb 0 marks ≡ true
marks_some marks x b =
    elim (dec_lt 0 marks) [
      | yes h ↦ lt-ltb 0 marks h
      | no h ↦ let e : marks ≡ 0 = omega arith in absurd (nothing_bit x (rw e at b))
    ]

-- below n + 1: below n, or n
pub below_next : (k n : ℕ) → k < n + 1 → (k < n) ⊎ (k ≡ n)
below_next k n l = at (dec_lt k n)
  where
    at : Dec (k < n) → (k < n) ⊎ (k ≡ n)
    at (yes h) = inl h
    at (no h) = inr (omega arith)

module _ (rules : List ℕ) where
  -- ---- the same right side

  same_both : (g h i : ℕ) → SameRight rules g i → SameRight rules h i → SameRight rules g h
  same_both g h i (n, b, d) (n', b', d') = (n ∙ sym n', b ∙ sym b', d ∙ sym d')

  -- it is made of the same symbols
  pub same_symbols : (g i : ℕ) → SameRight rules g i → right_side rules g ≡ right_side rules i
  unfolding right_side
  same_symbols g i (n, b, d) = rw (n, b, d)

  same_dec : (h i : ℕ) → Dec (SameRight rules h i)
  same_dec h i =
      elim (ℕ_discrete (field rules h 1) (field rules i 1)) [
        | no q ↦ no (λ (n, b, d). q n)
        | yes n ↦ elim (ℕ_discrete (field rules h 2) (field rules i 2)) [
          | no q ↦ no (λ (n, b, d). q b)
          | yes b ↦ elim (ℕ_discrete (field rules h 3) (field rules i 3)) [
            | no q ↦ no (λ (n, b, d). q d)
            | yes d ↦ yes (n, b, d)
          ]
        ]
      ]

  -- ---- the first useful rule with the right side of rule g

  module _ (in_range : RulesInRange rules) where
    -- a rule's marks tell whether it is
    first_dec : (i marks : ℕ) → i < length rules / 4 → Sharing rules i marks → Dec (FirstUseful rules i)
    first_dec i marks l sharing = at (bit marks (field rules i 0)) refl
      where
        shared : (bit marks (field rules i 0) ≡ true)
            ↔ (Useful (Gives rules) (field rules i 0) × FirstUseful rules i × SharesRight rules i (field rules i 0))
        shared = sharing.shared (field rules i 0) (in_range.left_below i l)

        at : (b : Bool) → bit marks (field rules i 0) ≡ b → Dec (FirstUseful rules i)
        at true e = yes (shared.0 e).1
        at false e = no (λ f. false≢true (sym e ∙ shared.1 (f.0.0, f, (i, l, refl, (refl, refl, refl)))))

    module _ (shares : List ℕ) (all : Shares rules shares) (g : ℕ) where
      -- among the rules below n
      abbrev FirstBelow : ℕ → Type 0
      FirstBelow n = (i : ℕ) × (i < n) × SameRight rules g i × FirstUseful rules i

      abbrev NoneBelow : ℕ → Type 0
      NoneBelow n = (h : ℕ) → h < n → UsefulRule rules h → SameRight rules g h → ⊥

      first_below : (n : ℕ) → n ≤ length rules / 4 → FirstBelow n ⊎ NoneBelow n
      first_below zero l = inr (λ h l u s. omega arith)
      first_below (suc n) l =
          ⊎_elim (λ (i, l, s, f). inl (i, omega arith, s, f))
          (λ none. at none (same_dec g n) (first_dec n (get_or shares n 0) l (all.each n l))) (first_below n (omega arith))
        where
          none_there : NoneBelow n → (SameRight rules g n → UsefulRule rules n → ⊥) → NoneBelow (suc n)
          none_there none q h l u s =
              elim (dec_lt h n) [ yes k ↦ none h k u s | no k ↦ let e : h ≡ n = omega arith in q (rw e at s) (rw e at u) ]

          at : NoneBelow n → Dec (SameRight rules g n) → Dec (FirstUseful rules n) → FirstBelow (suc n) ⊎ NoneBelow (suc n)
          at none (no q) f = inr (none_there none (λ s u. q s))
          at none (yes s) (yes f) = inl (n, omega arith, s, f)
          at none (yes s) (no q) =
              inr (none_there none (λ s u. q (u, λ h l v t. none h l v (same_both g h n s t))))

      pub share_first : g < length rules / 4 → UsefulRule rules g → (i : ℕ) × (i ≤ g) × SameRight rules g i × FirstUseful rules i
      share_first l u =
          ⊎_elim (λ (i, h, s, f). (i, omega arith, s, f)) (λ none. absurd (none g (omega arith) u (refl, refl, refl)))
          (first_below (suc g) l)
