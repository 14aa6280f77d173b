-- Sets as numbers: a number's bits, and the number of the bits that pass a test. Relations and marks are such numbers.
use Rattle.std.specs.Prelude.{Bool, true, false, ◌||◌, ℕ, zero, suc, ◌+◌, ◌*◌, ◌/◌, ◌%◌, ◌^◌, eqb}

-- bit k of a number
unfoldable pub bit : ℕ → ℕ → Bool
bit r k = eqb (r / 2 ^ k % 2) 1

-- some number below n passes
unfoldable pub any : ℕ → (ℕ → Bool) → Bool
any zero f = false
any (suc n) f = any n f || f n

abbrev pub one_if : Bool → ℕ
one_if true = 1
one_if false = 0

-- the number below 2 ^ n whose bit k is f k
unfoldable pub number : ℕ → (ℕ → Bool) → ℕ
number zero f = 0
number (suc n) f = number n (λ k. f (suc k)) * 2 + one_if (f 0)
