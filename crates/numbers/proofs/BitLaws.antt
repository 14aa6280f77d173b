-- Numbers and their bits, at any width. `number n f` is built from its lowest bit, so most laws are inductions on n that halve the
-- number; `number_ext` (a number below 2 ^ n is determined by its n lowest bits) then turns a question about numbers into one about
-- bits. Assumes nothing.
use mathlib.Core.Path.{◌≡◌, refl, sym, ap, ap₂, ◌∙◌}
use mathlib.Core.Bool.{Bool, true, false, ◌&&◌, ◌||◌}
use Prim.Native.Nat.{ℕ, zero, suc, ◌+◌, ◌-◌, ◌*◌, ◌/◌, ◌%◌, ◌^◌, ◌≤◌, ◌<◌}
use native.Mathlib.Nat.{pow-suc, one-mul, mul-div_cancel, div-eq_of_lt, lt_of_lt_of_le, mul_assoc, mul_comm}
use native.Mathlib.Nat.{div-div-eq-div-mul, not-suc-le-zero, le_of_suc-le-suc, zero-add, suc-add}
use native.Mathlib.Omega.{arith}
use lib.Dec.{eqb, eqb-suc-zero, eqb-zero-suc, eqb-suc-suc}
use lib.Pow.{shl_exact, pow_mono, pow-add, field, mod-mod-pow}
use lib.Bits.{bit_or, bit_and, or_shr, or_mod, or_lt, and_shr, and_mod}
use borrow.Author.Tests.{eq-eqb, ne_eqb}
use Rattle.numbers.specs.Bits.{bit, one_if, number}

-- ---- the lowest bit and the rest

half : (m : ℕ) (b : Bool) → (m * 2 + one_if b) / 2 ≡ m
half m true = omega arith
half m false = omega arith

low : (m : ℕ) (b : Bool) → bit (m * 2 + one_if b) 0 ≡ b
unfolding bit
low m true = eq-eqb ((m * 2 + 1) / 1 % 2) 1 (omega arith)
low m false = ne_eqb ((m * 2 + 0) / 1 % 2) 1 (omega arith)

pub bit_suc : (r k : ℕ) → bit r (suc k) ≡ bit (r / 2) k
unfolding bit
bit_suc r k = rw (pow-suc, mul_comm (2 ^ k) 2, ← div-div-eq-div-mul r 2 (2 ^ k))

one_if_lt : (b : Bool) → one_if b < 2
one_if_lt true = omega arith
one_if_lt false = omega arith

one_if_eqb : (b : Bool) → eqb (one_if b) 1 ≡ b
one_if_eqb true = refl
one_if_eqb false = refl

one_if_and : (a b : Bool) → bit_and (one_if a) (one_if b) ≡ one_if (a && b)
one_if_and true true = refl
one_if_and true false = refl
one_if_and false true = refl
one_if_and false false = refl

one_if_or : (a b : Bool) → bit_or (one_if a) (one_if b) ≡ one_if (a || b)
one_if_or true true = refl
one_if_or true false = refl
one_if_or false true = refl
one_if_or false false = refl

digit_one_if : (d : ℕ) → d < 2 → d ≡ one_if (eqb d 1)
digit_one_if zero h = refl
digit_one_if (suc zero) h = refl
digit_one_if (suc (suc d)) h = absurd (omega arith)

-- a binary digit, and the bit
pub digit_bit : (r k : ℕ) → r / 2 ^ k % 2 ≡ one_if (bit r k)
unfolding bit
digit_bit r k = digit_one_if (r / 2 ^ k % 2) (omega arith)

pub bit_digit : (r k : ℕ) (b : Bool) → r / 2 ^ k % 2 ≡ one_if b → bit r k ≡ b
unfolding bit
bit_digit r k b e = rw e (one_if_eqb b)

low_digit : (r : ℕ) → r % 2 ≡ one_if (bit r 0)
low_digit r = rw (← digit_bit r 0) (omega arith)

-- ---- the number of n bits

pub bit_number : (n : ℕ) (f : ℕ → Bool) (k : ℕ) → k < n → bit (number n f) k ≡ f k
unfolding number
bit_number zero f k h = absurd (not-suc-le-zero h)
bit_number (suc n) f zero h = low (number n (λ k. f (suc k))) (f 0)
bit_number (suc n) f (suc k) h = rw (bit_suc, half) (bit_number n (λ k. f (suc k)) k (le_of_suc-le-suc h))

pub number_lt : (n : ℕ) (f : ℕ → Bool) → number n f < 2 ^ n
unfolding number
number_lt zero f = omega arith
number_lt (suc n) f = rw pow-suc (omega (arith, number_lt n (λ k. f (suc k)), one_if_lt (f 0)))

-- a number below 2 ^ n is determined by its n lowest bits
pub number_ext : (n : ℕ) (a b : ℕ) → a < 2 ^ n → b < 2 ^ n → ((k : ℕ) → k < n → bit a k ≡ bit b k) → a ≡ b
number_ext zero a b ha hb e = omega arith
number_ext (suc n) a b ha hb e =
    let ha' : a < 2 ^ n * 2 = rw pow-suc at ha in
    let hb' : b < 2 ^ n * 2 = rw pow-suc at hb in
    let l : a % 2 ≡ b % 2 = low_digit a ∙ ap one_if (e 0 (omega arith)) ∙ sym (low_digit b) in
    let h : a / 2 ≡ b / 2 =
    number_ext n (a / 2) (b / 2) (omega arith) (omega arith)
    (λ k hk. sym (bit_suc a k) ∙ e (suc k) (omega arith) ∙ bit_suc b k)
    in
    omega arith

-- equal bits, two parts, and no bit at all
pub number_cong : (n : ℕ) (f g : ℕ → Bool) → ((k : ℕ) → k < n → f k ≡ g k) → number n f ≡ number n g
number_cong n f g e =
    number_ext n (number n f) (number n g) (number_lt n f) (number_lt n g)
    (λ k h. bit_number n f k h ∙ e k h ∙ sym (bit_number n g k h))

pub number_append : (a b : ℕ) (f : ℕ → Bool) → number (a + b) f ≡ number a f + number b (λ k. f (a + k)) * 2 ^ a
unfolding number
number_append zero b f = simp zero-add (omega arith)
number_append (suc a) b f =
    simp (suc-add, pow-suc)
    (rw (number_append a b (λ k. f (suc k)), ← mul_assoc (number b (λ k. f (suc (a + k)))) (2 ^ a) 2) (omega arith))

pub number_none : (n : ℕ) → number n (λ k. false) ≡ 0
unfolding number
number_none zero = refl
number_none (suc n) = rw (number_none n)

-- ---- bits of a number moved down, of a remainder, of an intersection and of a union

pub bit_moved : (r y k : ℕ) → bit (r / 2 ^ y) k ≡ bit r (y + k)
unfolding bit
bit_moved r y k = rw (div-div-eq-div-mul r (2 ^ y) (2 ^ k), ← (pow-add 2 y k))

bit_of_rest : (r k i : ℕ) → bit (r % 2 ^ (i + 1 + k)) k ≡ bit r k
bit_of_rest r k i =
    bit_digit (r % 2 ^ (i + 1 + k)) k (bit r k)
    (ap (λ (n : ℕ). n % 2) (field r (i + 1) k) ∙ mod-mod-pow (r / 2 ^ k) i 1 ∙ digit_bit r k)

pub bit_rest : (r n k : ℕ) → k < n → bit (r % 2 ^ n) k ≡ bit r k
bit_rest r n k h = let e : n - k - 1 + 1 + k ≡ n = omega arith in rw e at (bit_of_rest r k (n - k - 1))

pub bit-and : (a b k : ℕ) → bit (bit_and a b) k ≡ (bit a k && bit b k)
bit-and a b k =
    bit_digit (bit_and a b) k (bit a k && bit b k)
    (ap (λ (n : ℕ). n % 2) (and_shr a b k) ∙ and_mod (a / 2 ^ k) (b / 2 ^ k) 1 ∙ ap₂ bit_and (digit_bit a k) (digit_bit b k)
    ∙ one_if_and (bit a k) (bit b k))

pub bit-or : (a b k : ℕ) → bit (bit_or a b) k ≡ (bit a k || bit b k)
bit-or a b k =
    bit_digit (bit_or a b) k (bit a k || bit b k)
    (ap (λ (n : ℕ). n % 2) (or_shr a b k) ∙ or_mod (a / 2 ^ k) (b / 2 ^ k) 1 ∙ ap₂ bit_or (digit_bit a k) (digit_bit b k)
    ∙ one_if_or (bit a k) (bit b k))

pub number_or : (n : ℕ) (f g : ℕ → Bool) → bit_or (number n f) (number n g) ≡ number n (λ k. f k || g k)
number_or n f g =
    number_ext n (bit_or (number n f) (number n g)) (number n (λ k. f k || g k))
    (or_lt n (number n f) (number n g) (number_lt n f) (number_lt n g)) (number_lt n (λ k. f k || g k))
    (λ k h.
    bit-or (number n f) (number n g) k ∙ ap₂ ◌||◌ (bit_number n f k h) (bit_number n g k h)
    ∙ sym (bit_number n (λ k. f k || g k) k h))

-- ---- bits of a power

-- past the width all bits are off
pub bit_past : (r n k : ℕ) → r < 2 ^ n → n ≤ k → bit r k ≡ false
bit_past r n k h hk = bit_digit r k false (ap (λ (x : ℕ). x % 2) (div-eq_of_lt (lt_of_lt_of_le h (pow_mono hk))))

pub bit_pow : (i k : ℕ) → bit (2 ^ i) k ≡ eqb k i
bit_pow zero zero = bit_digit 1 0 true refl
bit_pow zero (suc k) = bit_past 1 1 (suc k) (omega arith) (omega arith) ∙ sym (eqb-suc-zero k)
bit_pow (suc i) zero = bit_digit (2 ^ suc i) 0 false (rw pow-suc (omega arith)) ∙ sym (eqb-zero-suc i)
bit_pow (suc i) (suc k) = rw (bit_suc, pow-suc, mul-div_cancel (2 ^ i) {n = 2} (omega arith), bit_pow i k, eqb-suc-suc)

-- 1 << k in a word of n bits
