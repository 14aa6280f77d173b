-- What digits mean (specs/Decimal.antt): a number in decimal is made of digits, does not begin with a zero unless it is 0, and read back
-- gives the number; so no two numbers are written alike, and no other digits show the number. A claim on a number rests on the claim on
-- its tenth part. Assumes nothing.
use mathlib.Core.Path.{◌≡◌, refl, sym, ap, ◌∙◌, subst}
use mathlib.Core.List.{List, [], ◌∷◌, ◌++◌}
use Prim.Native.Nat.{ℕ, zero, suc, ◌+◌, ◌-◌, ◌*◌, ◌/◌, ◌%◌, ◌≤◌, ◌<◌}
use native.Mathlib.Decide.{dec_lt}
use native.Mathlib.Omega.{arith}
use lib.ListN.{length, get_or, length-append, get_or-append}
use Rattle.line.specs.Decimal.{digit_zero, digits, places, decimal, read_on, value_of}
use Rattle.line.proofs.DecimalLaws.{places_small, places_large, places_some}

-- ---- as many digits as asked for

pub digits_length : (k n : ℕ) → length (digits k n) ≡ k
unfolding digits
digits_length zero n = refl
digits_length (suc k) n = rw (length-append, digits_length k (n / 10)) (omega arith)

pub decimal_length : (n : ℕ) → length (decimal n) ≡ places n
unfolding decimal
decimal_length n = digits_length (places n) n

-- ---- the tenth part has fewer turns to go: a claim on every number, from the claim on its tenth part

module _ (P : ℕ → Type 0) (small : (n : ℕ) → n < 10 → P n) (large : (n : ℕ) → 10 ≤ n → P (n / 10) → P n) where
  by_tenths_within : (turns n : ℕ) → n ≤ turns → P n
  by_tenths_within zero n h = small n (omega arith)
  by_tenths_within (suc turns) n h =
      elim (dec_lt n 10) [
        | yes l ↦ small n l
        | no l ↦ large n (omega arith) (by_tenths_within turns (n / 10) (omega arith))
      ]

  pub by_tenths : (n : ℕ) → P n
  by_tenths n = by_tenths_within n n (omega arith)

pub decimal_small : (n : ℕ) → n < 10 → decimal n ≡ (digit_zero + n) ∷ []
unfolding decimal digits
decimal_small n h = let e : n % 10 ≡ n = omega arith in rw (places_small n h, e)

pub decimal_large : (n : ℕ) → 10 ≤ n → decimal n ≡ decimal (n / 10) ++ ((digit_zero + n % 10) ∷ [])
unfolding decimal digits
decimal_large n h = rw (places_large n h)

-- ---- bytes 48 to 57

abbrev pub AllDigits : List ℕ → Type 0
AllDigits [] = Unit {0}
AllDigits (d ∷ ds) = (digit_zero ≤ d) × (d ≤ digit_zero + 9) × AllDigits ds

all_append : (xs : List ℕ) (d : ℕ) → AllDigits xs → digit_zero ≤ d → d ≤ digit_zero + 9 → AllDigits (xs ++ (d ∷ []))
all_append [] d a low high = (low, high, tt)
all_append (x ∷ xs) d (l, h, a) low high = (l, h, all_append xs d a low high)

pub decimal_digits : (n : ℕ) → AllDigits (decimal n)
decimal_digits =
    by_tenths (λ n. AllDigits (decimal n)) (λ n h. rw (decimal_small n h) (omega arith, omega arith, tt))
    (λ n h a. rw (decimal_large n h) (all_append (decimal (n / 10)) (digit_zero + n % 10) a (omega arith) (omega arith)))

-- ---- no leading zero

pub decimal_leading : (n : ℕ) → 1 ≤ n → digit_zero < get_or (decimal n) 0 0
decimal_leading =
    by_tenths (λ n. 1 ≤ n → digit_zero < get_or (decimal n) 0 0) (λ n h some. rw (decimal_small n h) (omega arith))
    (λ n h before some.
    let long = decimal_length (n / 10) in
    let more = places_some (n / 10) in
    let same = get_or-append (decimal (n / 10)) ((digit_zero + n % 10) ∷ []) 0 0 (omega arith) in
    rw (decimal_large n h, same) (before (omega arith)))

-- ---- read back

read_append : (m : ℕ) (xs : List ℕ) (d : ℕ) → read_on m (xs ++ (d ∷ [])) ≡ read_on m xs * 10 + (d - digit_zero)
unfolding read_on
read_append m [] d = refl
read_append m (x ∷ xs) d = read_append (m * 10 + (x - digit_zero)) xs d

pub decimal_read : (n : ℕ) → value_of (decimal n) ≡ n
unfolding read_on
decimal_read =
    by_tenths (λ n. value_of (decimal n) ≡ n) (λ n h. rw (decimal_small n h) (omega arith))
    (λ n h before. rw (decimal_large n h, read_append 0 (decimal (n / 10)) (digit_zero + n % 10), before) (omega arith))

pub decimal_injective : (n m : ℕ) → decimal n ≡ decimal m → n ≡ m
decimal_injective n m e = sym (decimal_read n) ∙ ap value_of e ∙ decimal_read m

-- ---- no other digits show the number

-- digits without a leading zero that show n
pub record Written (n : ℕ) (ds : List ℕ) : Type 0 where
  pub some : 1 ≤ length ds
  pub digits_only : AllDigits ds
  pub no_leading_zero : 2 ≤ length ds → digit_zero < get_or ds 0 0
  pub shows : value_of ds ≡ n

read_grows : (m : ℕ) (ds : List ℕ) → m ≤ read_on m ds
unfolding read_on
read_grows m [] = omega arith
read_grows m (d ∷ ds) = let more = read_grows (m * 10 + (d - digit_zero)) ds in omega (arith, more)

value_some : (ds : List ℕ) → digit_zero < get_or ds 0 0 → 1 ≤ value_of ds
unfolding read_on
value_some [] h = absurd (omega (arith, h))
value_some (d ∷ ds) h = let more = read_grows (0 * 10 + (d - digit_zero)) ds in omega (arith, more, h)

all_out : (xs : List ℕ) (d : ℕ) → AllDigits (xs ++ (d ∷ [])) → AllDigits xs × (digit_zero ≤ d) × (d ≤ digit_zero + 9)
all_out [] d (l, h, _) = (tt, l, h)
all_out (x ∷ xs) d (l, h, a) = let (b, low, high) = all_out xs d a in ((l, h, b), low, high)

-- a list that is not empty has a last entry
last_of : (d : ℕ) (ds : List ℕ) → (xs : List ℕ) × (e : ℕ) × (d ∷ ds ≡ xs ++ (e ∷ []))
last_of d [] = ([], d, refl)
last_of d (x ∷ ds) = let (xs, e, same) = last_of x ds in (d ∷ xs, e, ap (λ (r : List ℕ). d ∷ r) same)

-- one digit, or digits and a last one: then the tenth part is written before it
module _ (n : ℕ) (before : 10 ≤ n → (xs : List ℕ) → Written (n / 10) xs → xs ≡ decimal (n / 10)) where
  one_only : (d : ℕ) → Written n (d ∷ []) → d ∷ [] ≡ decimal n
  unfolding read_on
  one_only d w =
      let (_, low, high) = all_out [] d w.digits_only in
      let value = w.shows in
      let e : d ≡ digit_zero + n = omega (arith, low, value) in
      rw (decimal_small n (omega (arith, high, e)), e)

  more_only : (x : ℕ) (xs : List ℕ) (d : ℕ) → Written n ((x ∷ xs) ++ (d ∷ [])) → (x ∷ xs) ++ (d ∷ []) ≡ decimal n
  more_only x xs d w =
      let (all, low, high) = all_out (x ∷ xs) d w.digits_only in
      let value = sym (read_append 0 (x ∷ xs) d) ∙ w.shows in
      let long = length-append (x ∷ xs) (d ∷ []) in
      let first = w.no_leading_zero (omega (arith, long)) in
      let some = value_some (x ∷ xs) first in
      let large : 10 ≤ n = omega (arith, some, value) in
      let tenth : value_of (x ∷ xs) ≡ n / 10 = omega (arith, value, low, high) in
      let last : d ≡ digit_zero + n % 10 = omega (arith, value, low, high) in
      let same = before large (x ∷ xs) (record { some = omega arith; digits_only = all; no_leading_zero = λ _. first; shows = tenth }) in
      ap (λ (r : List ℕ). r ++ (d ∷ [])) same ∙ ap (λ (e : ℕ). decimal (n / 10) ++ (e ∷ [])) last ∙ sym (decimal_large n large)

  split_only : (xs : List ℕ) (d : ℕ) → Written n (xs ++ (d ∷ [])) → xs ++ (d ∷ []) ≡ decimal n
  split_only [] d w = one_only d w
  split_only (x ∷ xs) d w = more_only x xs d w

  list_only : (ds : List ℕ) → Written n ds → ds ≡ decimal n
  list_only [] w = absurd (omega (arith, w.some))
  list_only (d ∷ ds) w =
      let (xs, e, same) = last_of d ds in
      same ∙ split_only xs e (subst (λ (r : List ℕ). Written n r) same w)

pub decimal_only : (n : ℕ) (ds : List ℕ) → Written n ds → ds ≡ decimal n
decimal_only =
    by_tenths (λ n. (ds : List ℕ) → Written n ds → ds ≡ decimal n)
    (λ n h ds w. list_only n (λ large. absurd (omega (arith, h, large))) ds w)
    (λ n h before ds w. list_only n (λ _. before) ds w)
