-- What the branches and the loop of the code have, in the very words in which the code has it and at its width, so that `search turns`
-- chains them: the value in each arm of a branch; none, next and end of the composition's loop. Each follows from one law of UnitLaws or
-- of ThroughLaws. Assumes nothing.
use mathlib.Core.Path.{◌≡◌, refl, sym, ap, ◌∙◌}
use Prim.Native.Nat.{ℕ, ◌+◌, ◌*◌, ◌/◌, ◌%◌, ◌^◌, ◌≤◌, ◌<◌}
use native.Mathlib.Nat.{mod-eq_of_lt}
use native.Mathlib.Omega.{arith}
use lib.Bits.{bit_or, bit_and}
use lib.Pow.{pow_pos, shr-shr}
use mir.Syntax.{w64}
use mir.Val.{Fits}
use borrow.Author.Rules.{rules}
use Rattle.std.proofs.lemmas.Nat.{one_shl}
use Rattle.numbers.specs.Bits.{number}
use Rattle.hedge.specs.Relation.{has}
use Rattle.hedge.specs.Operations.{same, linked, through, first_column, lowest, relation, unit, compose}
use Rattle.hedge.proofs.RelationLaws.{relation_lt}
use Rattle.hedge.proofs.UnitLaws.{unit_compose, unit_first_rows}
use Rattle.hedge.proofs.LaneLaws.{first-column}
use Rattle.hedge.proofs.ThroughLaws.{first_column_of, first_row_of, times_through, through_moved, linked_none, linked_next}

-- ---- the first rows, the unit, and the empty word before another

rows_power : (q : ℕ) → q < 8 → (1 * 2 ^ (q * 8)) % 2 ^ 64 ≡ 2 ^ (q * 8)
rows_power q h = one_shl (q * 8) 64 (omega arith)

pub rows_power_positive : (q : ℕ) → q < 8 → 0 < (1 * 2 ^ (q * 8)) % 2 ^ 64
rows_power_positive q h = rw (rows_power q h) (pow_pos (q * 8))

pub rows_some : (q r : ℕ) → q < 8 → r % ((1 * 2 ^ (q * 8)) % 2 ^ 64) ≡ r % 2 ^ (q * 8)
rows_some q r h = rw (rows_power q h)

pub rows_all : (q r : ℕ) → q ≤ 8 → 8 ≤ q → Fits w64 r → r ≡ r % 2 ^ (q * 8)
rows_all q r h h' f = let e : q ≡ 8 = omega arith in rw e (sym (mod-eq_of_lt f.fits))

all_states : ◌≡◌ {A = ℕ} 9241421688590303745 (unit 8 8)
unfolding unit same relation lowest number
all_states = refl

pub unit_is : (q s : ℕ) → q ≤ 8 → s ≡ 9241421688590303745 % 2 ^ (q * 8) → s ≡ unit 8 q
unit_is q s h e = e ∙ ap (λ (n : ℕ). n % 2 ^ (q * 8)) all_states ∙ unit_first_rows 8 q h

pub empty_before : (q empty left right s : ℕ) → q ≤ 8
    → empty ≡ unit 8 q
    → left ≡ empty
    → Fits w64 right
    → s ≡ right % 2 ^ (q * 8)
    → s ≡ compose 8 q left right
empty_before q empty left right s h e d f p = rw (d, e, unit_compose 8 q right h f.fits) p

-- ---- composing by rows

pub column_is : (r : ℕ) → bit_and r 72340172838076673 ≡ relation 8 (first_column (has 8 r))
column_is r = ap (bit_and r) first-column ∙ first_column_of 8 r

pub row_is : (r : ℕ) → r % 256 ≡ number 8 (has 8 r 0)
row_is r = first_row_of 8 r

module _ (left right c s : ℕ) (ec : c ≡ relation 8 (first_column (has 8 left))) (es : s ≡ number 8 (has 8 right 0)) where
  pub crossed_is : c * s ≡ relation 8 (through (has 8 left) (has 8 right) 0)
  crossed_is = rw (ec, es) (times_through 8 (omega arith) (has 8 left) (has 8 right))

  pub crossed_fits : Fits w64 (c * s)
  crossed_fits = record { fits = rw crossed_is (relation_lt 8 (through (has 8 left) (has 8 right) 0)) }

pub composed_none : (left right : ℕ) → 0 ≡ relation 8 (linked 0 (has 8 left) (has 8 right))
composed_none left right = linked_none 8 (has 8 left) (has 8 right)

pub column_none : (r : ℕ) → r ≡ r / 2 ^ 0
column_none r = omega arith

pub row_none : (r : ℕ) → r ≡ r / 2 ^ (0 * 8)
row_none r = omega arith

pub column_next : (r y a : ℕ) → a ≡ r / 2 ^ y → a / 2 ^ 1 ≡ r / 2 ^ (y + 1)
column_next r y a e = rw e (shr-shr r y 1)

pub row_next : (r y b : ℕ) → b ≡ r / 2 ^ (y * 8) → b / 2 ^ 8 ≡ r / 2 ^ ((y + 1) * 8)
row_next r y b e = let d : (y + 1) * 8 ≡ y * 8 + 8 = omega arith in rw (e, d) (shr-shr r (y * 8) 8)

module _ (left right y r : ℕ) (er : r ≡ relation 8 (linked y (has 8 left) (has 8 right))) where
  pub composed_next : (a b s : ℕ) → a ≡ left / 2 ^ y
      → b ≡ right / 2 ^ (y * 8)
      → s ≡ relation 8 (through (has 8 a) (has 8 b) 0)
      → bit_or r s ≡ relation 8 (linked (y + 1) (has 8 left) (has 8 right))
  composed_next a b s ea eb es =
      rw (er, es, ea, eb, through_moved 8 left right y) (linked_next 8 (has 8 left) (has 8 right) y)

  pub composed_end : (q : ℕ) → y ≤ q → q ≤ y → r ≡ compose 8 q left right
  unfolding compose
  composed_end q h h' = let d : y ≡ q = omega arith in rw (← d) er

pub ruleset turns = (
  unit_is,
  empty_before,
  column_is,
  row_is,
  crossed_is,
  crossed_fits,
  composed_none,
  column_none,
  row_none,
  column_next,
  row_next,
  composed_next,
  composed_end,
  rules,
)
