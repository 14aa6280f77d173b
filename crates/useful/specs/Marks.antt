-- Marks of nonterminals as the bits of a number, and the rules as they are lent. Rules, sections 2 and 4: there are at most 64
-- nonterminals, and a symbol from 64 on that the rule's length counts is one.
use Rattle.std.specs.Prelude.{◌≡◌, Bool, true, ◌&&◌, cond, List, [], ◌∷◌, ◌↔◌, ℕ, zero, suc, ◌-◌, ◌/◌, ◌^◌, ◌≤◌, ◌<◌, ltb, leb, length}
use Rattle.std.specs.Int.Bits.{bit_or}
use Rattle.numbers.specs.Fields.{field}
use Rattle.numbers.specs.Bits.{bit}
use Rattle.template.specs.Grammar.{Symbol, tag, nonterminal, right_side, Gives}
use Rattle.trees.specs.Trees.{Productive, Reached}

-- at a place of a right side: the first where the place is in use and its byte stands for a nonterminal, else the second
unfoldable pub at_slot : {A : Type 0} → Bool → ℕ → A → A → A
at_slot used byte x y = cond (used && (leb 64 byte && ltb byte 128)) x y

-- no nonterminal stands at the place, or a marked one
unfoldable pub slot_marked : Bool → ℕ → ℕ → Bool
slot_marked used byte marks = at_slot used byte (bit marks (byte - 64)) true

-- the marks with one more, and with the nonterminal at the place
unfoldable pub with_mark : ℕ → ℕ → ℕ
with_mark marks x = bit_or marks (2 ^ x)

unfoldable pub with_slot : Bool → ℕ → ℕ → ℕ
with_slot used byte marks = at_slot used byte (with_mark marks (byte - 64)) marks

-- the rules are those of a sound file, as far as marks need it
pub record RulesInRange (rules : List ℕ) : Type 0 where
  pub left_below : (i : ℕ) → i < length rules / 4 → field rules i 0 < 64
  pub first_below : (i : ℕ) → i < length rules / 4 → 0 < field rules i 1 → field rules i 2 < 128
  pub second_below : (i : ℕ) → i < length rules / 4 → 1 < field rules i 1 → field rules i 3 < 128

-- every nonterminal among the symbols is marked
abbrev pub AllMarked : (ℕ → Bool) → List Symbol → Type 0
AllMarked m [] = Unit {0}
AllMarked m (tag t ∷ ss) = AllMarked m ss
AllMarked m (nonterminal x ∷ ss) = (m x ≡ true) × AllMarked m ss

-- the marks are exactly the nonterminals, of 64, with the property
abbrev pub MarksAll : ℕ → (ℕ → Type 0) → Type 0
MarksAll marks P = (x : ℕ) → x < 64 → (bit marks x ≡ true) ↔ P x

-- each mark is of a nonterminal with the property
pub record Justified (P : ℕ → Type 0) (marks : ℕ) : Type 0 where
  pub reason : (x : ℕ) → bit marks x ≡ true → P x

-- a step of a pass, or a whole one: marks stay, new ones are justified, and where it adds none something is kept
pub record Passed (P Kept : ℕ → Type 0) (marks next : ℕ) : Type 0 where
  pub stay : (x : ℕ) → bit marks x ≡ true → bit next x ≡ true
  pub grow : marks ≤ next
  pub justified : Justified P marks → Justified P next
  pub kept : next ≡ marks → Kept marks

-- the n first rules are kept
pub record KeptBelow (Kept : ℕ → ℕ → Type 0) (n marks : ℕ) : Type 0 where
  pub each : (i : ℕ) → i < n → Kept i marks

-- n steps, one after the other, lead from marks to next: the i-th by the relation of i
unfoldable pub StepsTo : (ℕ → ℕ → ℕ → Type 0) → ℕ → ℕ → ℕ → Type 0
StepsTo R zero marks next = next ≡ marks
StepsTo R (suc n) marks next = (m : ℕ) × StepsTo R n marks m × R n m next

-- so many passes lead from marks to next, and one more adds none
pub record Saturated (R : ℕ → ℕ → Type 0) (marks next : ℕ) : Type 0 where
  pub passes : ℕ
  pub path : StepsTo (λ i. R) passes marks next
  pub still : R next next

-- where its right side is all marked, the rule's left side is marked
abbrev pub KeptUp : List ℕ → ℕ → ℕ → Type 0
KeptUp rules i marks = AllMarked (bit marks) (right_side rules i) → bit marks (field rules i 0) ≡ true

-- where its left side is marked and its right side is productive, the rule's right side is all marked
abbrev pub KeptDown : List ℕ → ℕ → ℕ → ℕ → Type 0
KeptDown rules productive i marks =
    bit marks (field rules i 0) ≡ true → AllMarked (bit productive) (right_side rules i) → AllMarked (bit marks) (right_side rules i)

-- a whole pass keeps every rule
abbrev pub PassedUp : List ℕ → ℕ → ℕ → Type 0
PassedUp rules marks next = Passed (Productive (Gives rules)) (KeptBelow (KeptUp rules) (length rules / 4)) marks next

abbrev pub PassedDown : List ℕ → ℕ → ℕ → ℕ → Type 0
PassedDown rules productive marks next =
    Passed (Reached (Gives rules)) (KeptBelow (KeptDown rules productive) (length rules / 4)) marks next
