-- Rules with the same right side. A pair of choices is joined once for all of them: where the first useful one of them stands, for the left
-- side of each. Rules, section 4: a rule's right side is its length and its two symbols, the bytes behind its left side.
use Rattle.std.specs.Prelude.{◌≡◌, true, List, ◌↔◌, ℕ, ◌/◌, ◌<◌, length, get_or}
use Rattle.numbers.specs.Bits.{bit}
use Rattle.numbers.specs.Fields.{field}
use Rattle.template.specs.Layout.{most_rules}
use Rattle.template.specs.Grammar.{right_side, Gives}
use Rattle.trees.specs.Trees.{AllProductive, Useful}

module _ (rules : List ℕ) where
  -- the right sides of rules h and i are the same
  abbrev pub SameRight : ℕ → ℕ → Type 0
  SameRight h i = (field rules h 1 ≡ field rules i 1) × (field rules h 2 ≡ field rules i 2) × (field rules h 3 ≡ field rules i 3)

  -- rule i stands in some page's tree: its left side is useful, and its right side derives some string
  abbrev pub UsefulRule : ℕ → Type 0
  UsefulRule i = Useful (Gives rules) (field rules i 0) × AllProductive (Gives rules) (right_side rules i)

  -- rule i is the first with its right side among the useful ones
  abbrev pub FirstUseful : ℕ → Type 0
  FirstUseful i = UsefulRule i × ((h : ℕ) → h < i → UsefulRule h → SameRight h i → ⊥)

  -- x is the left side of a rule with the right side of rule i
  abbrev pub SharesRight : ℕ → ℕ → Type 0
  SharesRight i x = (h : ℕ) × (h < length rules / 4) × (field rules h 0 ≡ x) × SameRight h i

  -- the marks for rule i are the useful nonterminals that share its right side, where it is the first useful one with it; else none
  pub record Sharing (i marks : ℕ) : Type 0 where
    pub shared : (x : ℕ) → x < 64 → (bit marks x ≡ true) ↔ (Useful (Gives rules) x × FirstUseful i × SharesRight i x)
    pub some : 0 < marks → (x : ℕ) × (x < 64) × (bit marks x ≡ true)

  -- of each of the n first rules
  pub record SharesBelow (n : ℕ) (shares : List ℕ) : Type 0 where
    pub long : length shares ≡ most_rules
    pub each : (i : ℕ) → i < n → Sharing i (get_or shares i 0)

  abbrev pub Shares : List ℕ → Type 0
  Shares shares = SharesBelow (length rules / 4) shares
