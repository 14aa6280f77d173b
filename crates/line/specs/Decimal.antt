-- Numbers in decimal, as bytes: 48 to 57 are the digits 0 to 9, the most significant stands first, and only 0 itself begins with a zero
-- (Rules, section 11). What the digits mean is `value_of`, which reads them back.
use Rattle.std.specs.Prelude.{Bool, true, false, List, [], ◌∷◌, ◌++◌, ℕ, zero, suc, ◌+◌, ◌-◌, ◌*◌, ◌/◌, ◌%◌, ltb}

-- the digit 0, and the most digits of a number of 64 bits
abbrev pub digit_zero : ℕ
digit_zero = 48

abbrev pub most_digits : ℕ
most_digits = 20

-- the last k digits of a number
unfoldable pub digits : ℕ → ℕ → List ℕ
digits zero n = []
digits (suc k) n = digits k (n / 10) ++ ((digit_zero + n % 10) ∷ [])

-- how many digits a number has: one where it is below ten, else one more than its tenth part has. The first argument only bounds the turns
abbrev pub one_or : Bool → ℕ → ℕ
one_or true k = 1
one_or false k = suc k

unfoldable pub places_within : ℕ → ℕ → ℕ
places_within zero n = 1
places_within (suc turns) n = one_or (ltb n 10) (places_within turns (n / 10))

unfoldable pub places : ℕ → ℕ
places n = places_within n n

-- a number in decimal
unfoldable pub decimal : ℕ → List ℕ
decimal n = digits (places n) n

-- the number that digits show, behind those that show m
unfoldable pub read_on : ℕ → List ℕ → ℕ
read_on m [] = m
read_on m (d ∷ ds) = read_on (m * 10 + (d - digit_zero)) ds

abbrev pub value_of : List ℕ → ℕ
value_of ds = read_on 0 ds
