-- Tests as Bool: taking `&&`, `||` and `any` apart and putting them together. A fact is written `b ≡ true`. The laws of `any` go by
-- induction on the bound, one number more at a time. Assumes nothing.
use Rattle.std.proofs.lemmas.Bool.{or_cases}
use mathlib.Core.Path.{◌≡◌, refl, sym}
use mathlib.Core.Logic.{◌↔◌, ◌⊎◌, inl, inr, ⊎_elim}
use mathlib.Core.Bool.{Bool, true, false, false≢true, or-true, ◌&&◌, ◌||◌}
use Prim.Native.Nat.{ℕ, zero, suc, ◌<◌}
use native.Mathlib.Nat.{not-suc-le-zero}
use native.Mathlib.Omega.{arith}
use native.Mathlib.Decide.{dec_lt}
use Rattle.numbers.specs.Bits.{any}

-- ---- two tests

-- tests that pass together are the same
pub ext_true : {a b : Bool} → (a ≡ true) ↔ (b ≡ true) → a ≡ b
ext_true {a = true} {b} e = sym (e.0 refl)
ext_true {a = false} {b = true} e = e.1 refl
ext_true {a = false} {b = false} e = refl

-- ---- some number below n

pub any_in : (n : ℕ) (f : ℕ → Bool) (k : ℕ) → k < n → f k ≡ true → any n f ≡ true
unfolding any
any_in zero f k h t = absurd (not-suc-le-zero h)
any_in (suc n) f k h t =
    elim (dec_lt k n) [
      | yes l ↦ rw (any_in n f k l t)
      | no l ↦ let e : k ≡ n = omega arith in rw (← e, t, or-true)
    ]

pub any_out : (n : ℕ) (f : ℕ → Bool) → any n f ≡ true → (k : ℕ) × (k < n) × (f k ≡ true)
unfolding any
any_out zero f t = absurd (false≢true t)
any_out (suc n) f t =
    ⊎_elim (λ s. let (k, h, u) = any_out n f s in (k, omega arith, u)) (λ s. (n, omega arith, s)) (or_cases (any n f) _ t)
