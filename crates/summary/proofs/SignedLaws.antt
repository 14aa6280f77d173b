-- The difference of two counts as a number of 32 bits: it is no larger than the larger count, so it is read back as it is. Assumes
-- nothing.
use mathlib.Core.Path.{◌≡◌, ap, ◌∙◌}
use Prim.Native.Nat.{ℕ, zero, suc, ◌+◌, ◌-◌, ◌≤◌, ◌<◌}
use native.Mathlib.Decide.{dec_lt}
use native.Mathlib.Omega.{arith}
use lib.IntN.{ℤ, pos, negsuc, ◌-ℤ◌}
use lib.Signed.{mag}
use borrow.Author.Tests.{lt-ltb, le-ltb}
use mir.Syntax.{w32}
use mir.Val.{SFits, to_z, of_z}
use mir.Facts.{to_z_pos, to_z-of_z}

pub difference_up : (a b : ℕ) → b ≤ a → pos a -ℤ pos b ≡ pos (a - b)
difference_up a zero h = ap pos (omega arith)
difference_up a (suc b) h = rw (le-ltb a (suc b) h)

pub difference_down : (a b : ℕ) → a < b → pos a -ℤ pos b ≡ negsuc (b - suc a)
difference_down a zero h = absurd (omega arith)
difference_down a (suc b) h = rw (lt-ltb a (suc b) h)

mag_difference : (a b k : ℕ) → a ≤ k → b ≤ k → mag (pos a -ℤ pos b) ≤ k
mag_difference a b k h l =
    elim (dec_lt a b) [
      | yes p ↦ rw (difference_down a b p) (omega arith)
      | no p ↦ rw (difference_up a b (omega arith)) (omega arith)
    ]

module _ (a b : ℕ) (few : b + a ≤ 16) where
  read_count : (n : ℕ) → n ≤ 16 → to_z w32 n ≡ pos n
  read_count n h = to_z_pos w32 (omega arith)

  pub difference_fits : SFits w32 (to_z w32 a -ℤ to_z w32 b)
  difference_fits =
      rw (read_count a (omega arith), read_count b (omega arith))
      (record { sfits = omega (arith, mag_difference a b 16 (omega arith) (omega arith)) })

  pub difference_read : to_z w32 (of_z w32 (to_z w32 a -ℤ to_z w32 b)) ≡ pos a -ℤ pos b
  difference_read = to_z-of_z difference_fits ∙ rw (read_count a (omega arith), read_count b (omega arith))

  -- once more, where it was handed on
  pub difference_again : (z : ℤ) → z ≡ pos a -ℤ pos b → to_z w32 (of_z w32 z) ≡ pos a -ℤ pos b
  difference_again z e = rw e (to_z-of_z {w = w32} (record { sfits = omega (arith, mag_difference a b 16 (omega arith) (omega arith)) }))
