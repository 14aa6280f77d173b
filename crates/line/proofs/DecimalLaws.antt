-- How many digits a number has (specs/Decimal.antt): one below ten, else one more than its tenth part, whatever bounds the turns; a number
-- below 10 ^ k has at most k. `counts` is what counting them needs. Assumes nothing.
use mathlib.Core.Path.{◌≡◌, refl}
use Prim.Native.Nat.{ℕ, zero, suc, ◌*◌, ◌/◌, ◌^◌, ◌≤◌, ◌<◌}
use native.Mathlib.Nat.{pow-suc}
use native.Mathlib.Decide.{dec_lt}
use native.Mathlib.Omega.{arith}
use mir.Syntax.{w64}
use mir.Val.{Fits}
use borrow.Author.Tests.{lt-ltb, le-ltb}
use Rattle.line.specs.Decimal.{most_digits, places_within, places}

-- ---- how many digits

within_enough : (k j n : ℕ) → n ≤ k → n ≤ j → places_within k n ≡ places_within j n
unfolding places_within
within_enough zero zero n h g = refl
within_enough zero (suc j) n h g = let e : n ≡ 0 = omega arith in rw e
within_enough (suc k) zero n h g = let e : n ≡ 0 = omega arith in rw e
within_enough (suc k) (suc j) n h g = rw (within_enough k j (n / 10) (omega arith) (omega arith))

pub places_small : (n : ℕ) → n < 10 → places n ≡ 1
unfolding places places_within
places_small zero h = refl
places_small (suc n) h = rw (lt-ltb (suc n) 10 h)

pub places_large : (n : ℕ) → 10 ≤ n → places n ≡ suc (places (n / 10))
unfolding places places_within
places_large zero h = absurd (omega (arith, h))
places_large (suc n) h =
    rw (le-ltb (suc n) 10 h, within_enough n (suc n / 10) (suc n / 10) (omega arith) (omega arith))

pub places_some : (n : ℕ) → 1 ≤ places n
places_some n =
    elim (dec_lt n 10) [
      | yes l ↦ rw (places_small n l) (omega arith)
      | no l ↦ rw (places_large n (omega arith)) (omega arith)
    ]

-- ---- a number below 10 ^ k

pub places_most : (k n : ℕ) → n < 10 ^ suc k → places n ≤ suc k
places_most zero n h = rw (places_small n h) (omega arith)
places_most (suc k) n h =
    elim (dec_lt n 10) [
      | yes l ↦ rw (places_small n l) (omega arith)
      | no l ↦
          let less : n < 10 ^ suc k * 10 = rw (← pow-suc 10 (suc k)) h in
          let more = places_most k (n / 10) (omega arith) in
          rw (places_large n (omega arith)) (omega arith)
    ]

pub places_few : (n : ℕ) → Fits w64 n → places n ≤ most_digits
places_few n f = places_most 19 n (omega (arith, f.fits))

pub ruleset counts = (places_small, places_large, places_some, places_few)
