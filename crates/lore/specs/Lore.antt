-- A schema taught into one list of numbers, its lore: entry 0 the number of states, 1 the ending states as bits, 2 the relation of the
-- empty word; from entry 8 on, for each name the relation of an element with nothing inside, its leaf; then, for each name a and inner
-- state y, the relation of all (x, z) with a rule x, a, y, z. The operations of relations (Rules, section 5) are then read off it, and no
-- rule is looked at again. K is the width of a row.
use Rattle.std.specs.Prelude.{◌≡◌, Bool, ◌&&◌, cond, List, ℕ, zero, suc, ◌+◌, ◌*◌, ◌/◌, ◌^◌, ◌≤◌, ◌<◌, eqb, ltb, length, get_or, replicate}
use Rattle.std.specs.Int.Bits.{bit_or, bit_and}
use Rattle.numbers.specs.Bits.{any, number}
use Rattle.numbers.specs.Fields.{field}
use Rattle.words.specs.Tags.{most_names}
use Rattle.words.specs.Binoid.{Binoid}
use Rattle.hedge.specs.Relation.{Within}
use Rattle.hedge.specs.Schema.{RulesBelow, EndsBelow}
use Rattle.hedge.specs.Operations.{one_pair, relation, unit, compose}

-- ---- limits

-- the entries before the leaves, those before the table, and all entries
abbrev pub lore_head : ℕ
lore_head = 8

abbrev pub table_from : ℕ
table_from = lore_head + most_names

abbrev pub lore_long : ℕ → ℕ
lore_long K = table_from + most_names * K

-- ---- what the lore says of a schema

-- one of the n first ending states is t
unfoldable pub marked : List ℕ → ℕ → ℕ → Bool
marked ends n t = any n (λ j. eqb (get_or ends j 0) t)

-- row y of the relation has a state that is marked
unfoldable pub meets : ℕ → ℕ → ℕ → ℕ → Bool
meets K r marks y = ltb 0 (bit_and (r / 2 ^ (y * K)) marks)

-- rule i reads x, a, y, z for a y that passes
unfoldable pub reads : List ℕ → ℕ → (ℕ → Bool) → ℕ → ℕ → ℕ → Bool
reads rules a p i x z = one_pair (eqb (field rules i 1) a && p (field rules i 2)) (field rules i 0) (field rules i 3) x z

-- one of the n first rules does
unfoldable pub outer : List ℕ → ℕ → (ℕ → Bool) → ℕ → ℕ → ℕ → Bool
outer rules a p n x z = any n (λ i. reads rules a p i x z)

-- the names of the rules are below n
abbrev pub NamesBelow : ℕ → List ℕ → Type 0
NamesBelow n rules = (i : ℕ) → i < length rules / 4 → field rules i 1 < n

-- the number of states, the ending states and the empty word's relation, as the lore has them
abbrev pub states_in : List ℕ → ℕ
states_in lore = get_or lore 0 0

abbrev pub ending_bits : List ℕ → ℕ
ending_bits lore = get_or lore 1 0

abbrev pub empty_in : List ℕ → ℕ
empty_in lore = get_or lore 2 0

-- the place of name a's leaf, and of name a and inner state y
abbrev pub leaf_of : ℕ → ℕ
leaf_of a = lore_head + a

abbrev pub place_of : ℕ → ℕ → ℕ → ℕ
place_of K a y = table_from + (a * K + y)

-- the entries of all names and inner states are those of the n first rules. How long the list is is said too: a function does not know
-- it of an array that it was lent
pub record Masks (K : ℕ) (rules : List ℕ) (n : ℕ) (lore : List ℕ) : Type 0 where
  pub long : length lore ≡ lore_long K
  pub entries : (a y : ℕ) → a < most_names → y < K → get_or lore (place_of K a y) 0 ≡ relation K (outer rules a (λ v. eqb v y) n)

-- and the leaves too: of those rules whose inner state the empty word leads to an ending one
pub record Leaves (K marks empty : ℕ) (rules : List ℕ) (n : ℕ) (lore : List ℕ) : Type 0 where
  pub leaves : (a : ℕ) → a < most_names → get_or lore (leaf_of a) 0 ≡ relation K (outer rules a (meets K empty marks) n)

pub record Taught (K q : ℕ) (rules ends lore : List ℕ) : Type 0 where
  pub states : states_in lore ≡ q
  pub endings : ending_bits lore ≡ number K (marked ends (length ends))
  pub empty : empty_in lore ≡ unit K q
  pub masks : Masks K rules (length rules / 4) lore
  pub leaves : Leaves K (ending_bits lore) (empty_in lore) rules (length rules / 4) lore

-- the lore of some schema of at most K states
pub record IsLore (K : ℕ) (lore : List ℕ) : Type 0 where
  pub states : ℕ
  pub rules : List ℕ
  pub ends : List ℕ
  pub few : states ≤ K
  pub rules_below : RulesBelow states rules
  pub names_below : NamesBelow most_names rules
  pub ends_below : EndsBelow states ends
  pub taught : Taught K states rules ends lore

-- ---- the operations, read off the lore

-- the entry of inner state y, where its row meets the ending states
unfoldable pub met_entry : ℕ → List ℕ → ℕ → ℕ → ℕ → ℕ
met_entry K lore a r y = cond (meets K r (ending_bits lore) y) (get_or lore (place_of K a y) 0) 0

-- the entries of those of the n first inner states whose row meets the ending states, joined
unfoldable pub joined : ℕ → List ℕ → ℕ → ℕ → ℕ → ℕ
joined K lore a r zero = 0
joined K lore a r (suc y) = bit_or (joined K lore a r y) (met_entry K lore a r y)

unfoldable pub taught_wrap : ℕ → List ℕ → ℕ → ℕ → ℕ
taught_wrap K lore a r = joined K lore a r K

-- state 0 leads to an ending state
unfoldable pub taught_accepts : ℕ → List ℕ → ℕ → Bool
taught_accepts K lore r = meets K r (ending_bits lore) 0

-- the binoid of the lore
abbrev pub taught : ℕ → List ℕ → Binoid
taught K lore = record { H = ℕ; unit = empty_in lore; compose = compose K (states_in lore); wrap = taught_wrap K lore }

-- what every lore keeps, whatever schema it was taught: few states, the relation of the empty word, leaves that are the elements around it,
-- and elements that stay within the states
pub record Known (K : ℕ) (lore : List ℕ) : Type 0 where
  pub few : states_in lore ≤ K
  pub empty : empty_in lore ≡ unit K (states_in lore)
  pub leaves : (a : ℕ) → a < most_names → get_or lore (leaf_of a) 0 ≡ taught_wrap K lore a (empty_in lore)
  pub unnamed : (a r : ℕ) → most_names ≤ a → taught_wrap K lore a r ≡ 0
  pub within : (a r : ℕ) → Within K (states_in lore) (taught_wrap K lore a r)

abbrev pub zeros : ℕ → List ℕ
zeros n = replicate n 0
