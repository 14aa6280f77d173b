-- The template rules as a context-free grammar, whose start is nonterminal 0. Rules, sections 2 and 4: a rule's first byte is its left
-- side, its second says how many of the two symbol bytes count, and in these 64+n means nonterminal n. Right sides are lists of symbols
-- of any length.
use Rattle.std.specs.Prelude.{◌≡◌, cond, List, [], ◌∷◌, map, ℕ, ◌/◌, ◌-◌, ◌<◌, ltb, length, take}
use Rattle.words.specs.Tags.{Tag, start, end}
use Rattle.numbers.specs.Fields.{field}

-- a tag or a nonterminal
pub data Symbol : Type 0 where
  tag : Tag → Symbol
  nonterminal : ℕ → Symbol

-- the symbol that a byte stands for
unfoldable pub symbol_of : ℕ → Symbol
symbol_of b = cond (ltb b 32) (tag (start b)) (cond (ltb b 64) (tag (end (b - 32))) (nonterminal (b - 64)))

-- the right side of rule i in a list of bytes, four to a rule
unfoldable pub right_side : List ℕ → ℕ → List Symbol
right_side rules i = map symbol_of (take (field rules i 1) (field rules i 2 ∷ field rules i 3 ∷ []))

-- the list has a rule from the nonterminal x to these symbols
abbrev pub Gives : List ℕ → ℕ → List Symbol → Type 0
Gives rules x symbols = (i : ℕ) × (i < length rules / 4) × (field rules i 0 ≡ x) × (right_side rules i ≡ symbols)
