-- Schemas and what they derive: the source's regular hedge grammars, in their second form. Rules, section 3: an ending state derives the
-- empty word; by a rule X, a, Y, Z the state X derives an element a around what Y derives, and behind it what Z derives. State 0 is the
-- start; a word is valid that it derives, and that is one element and nothing beside.
use Rattle.std.specs.Prelude.{◌≡◌, List, [], ◌∷◌, ◌++◌, ℕ, ◌/◌, ◌<◌, length, get_or}
use Rattle.numbers.specs.Fields.{field}
use Rattle.words.specs.Tags.{Tag, start, end}
use Rattle.words.specs.Balance.{Balanced}
use Rattle.words.specs.Outermost.{OneElement}

-- the most states
abbrev pub most_states : ℕ
most_states = 8

-- the number of states, the rules, and the ending states
pub record Schema : Type 1 where
  pub states : ℕ
  pub Rule : ℕ → ℕ → ℕ → ℕ → Type 0
  pub Ending : ℕ → Type 0

-- the state X derives the word
pub data Derives (S : Schema) : ℕ → List Tag → Type 0 where
  derives_empty : {x : ℕ} → S.Ending x → Derives S x []
  derives_rule : {x a y z : ℕ} {u v : List Tag} → S.Rule x a y z → Derives S y u → Derives S z v
      → Derives S x (start a ∷ (u ++ (end a ∷ v)))

-- the state X derives the word followed by the state Z
pub data Leads (S : Schema) : ℕ → List Tag → ℕ → Type 0 where
  leads_here : {x : ℕ} → x < S.states → Leads S x [] x
  leads_rule : {x a y z t : ℕ} {u v : List Tag} → S.Rule x a y z → Derives S y u → Leads S z v t
      → Leads S x (start a ∷ (u ++ (end a ∷ v))) t

-- valid: balanced, derived by the schema's start, and with exactly one outermost element
abbrev pub Valid : Schema → List Tag → Type 0
Valid S w = Balanced w × Derives S 0 w × OneElement w

-- the schema of a list of rules and a list of ending states
abbrev pub schema_from : ℕ → List ℕ → List ℕ → Schema
schema_from states rules ends =
    record {
      states = states;
      Rule = λ x a y z.
          (i : ℕ) × (i < length rules / 4) × (field rules i 0 ≡ x) × (field rules i 1 ≡ a) × (field rules i 2 ≡ y) × (field rules i 3 ≡ z);
      Ending = λ x. (j : ℕ) × (j < length ends) × (get_or ends j 0 ≡ x);
    }

-- the states of the rules, and the ending states, are below q
abbrev pub RulesBelow : ℕ → List ℕ → Type 0
RulesBelow q rules =
    (i : ℕ) → i < length rules / 4 → (field rules i 0 < q) × (field rules i 2 < q) × (field rules i 3 < q)

abbrev pub EndsBelow : ℕ → List ℕ → Type 0
EndsBelow q ends = (j : ℕ) → j < length ends → get_or ends j 0 < q
