-- Template rules of up to twelve symbols, and the ordinary rules that stand for them (Rules, section 13). A long rule X → s1 s2 .. sk
-- becomes X → s1 M1, M1 → s2 M2, .., the last with two symbols; each M stands for the rest of its rule behind one symbol more, and is that
-- rule's own.
use Rattle.std.specs.Prelude.{◌≡◌, cond, List, [], ◌∷◌, ◌++◌, map, ℕ, zero, suc, ◌+◌, ◌-◌, ◌*◌, ◌/◌, ◌≤◌, ◌<◌, min, ltb, length, get_or, take, drop}
use Rattle.entries.specs.Entries.{most_symbols, rule_width}
use Rattle.template.specs.Layout.{most_nonterminals, most_rules}
use Rattle.template.specs.Grammar.{Symbol, symbol_of}

-- how many symbols a long rule may have
abbrev pub long_symbols : ℕ
long_symbols = most_symbols

-- field j of rule i: its left side, its length, then its symbols
unfoldable pub long_field : List ℕ → ℕ → ℕ → ℕ
long_field rules i j = get_or rules (i * rule_width long_symbols + j) 0

abbrev pub long_count : List ℕ → ℕ
long_count rules = length rules / rule_width long_symbols

-- the rules as a grammar
unfoldable pub long_side : List ℕ → ℕ → List Symbol
long_side rules i = map symbol_of (take (long_field rules i 1) (drop (i * rule_width long_symbols + 2) rules))

abbrev pub LongGives : List ℕ → ℕ → List Symbol → Type 0
LongGives rules x symbols = (i : ℕ) × (i < long_count rules) × (long_field rules i 0 ≡ x) × (long_side rules i ≡ symbols)

-- rules as a sound file with N nonterminals has them: left sides are nonterminals, lengths are within the rules, symbols are tags or
-- nonterminals
pub record LongRulesBelow (N : ℕ) (rules : List ℕ) : Type 0 where
  pub left_below : (i : ℕ) → i < long_count rules → long_field rules i 0 < N
  pub length_within : (i : ℕ) → i < long_count rules → long_field rules i 1 ≤ long_symbols
  pub symbol_below : (i j : ℕ) → i < long_count rules → j < long_field rules i 1 → long_field rules i (2 + j) < 64 + N

-- ---- new nonterminals

-- rule i needs one for each symbol past its second; and so many do the rules before it
abbrev pub extra : List ℕ → ℕ → ℕ
extra rules i = long_field rules i 1 - 2

unfoldable pub extras : List ℕ → ℕ → ℕ
extras rules zero = 0
extras rules (suc i) = extras rules i + extra rules i

-- with the new ones, the nonterminals and the rules are within the limits of an ordinary file
abbrev pub PartsFit : ℕ → List ℕ → Type 0
PartsFit N rules = (N + extras rules (long_count rules) ≤ most_nonterminals) × (long_count rules + extras rules (long_count rules) ≤ most_rules)

-- the nonterminal for rule i behind its first t symbols, where N are there before: its left side, then new ones in the order of the rules
unfoldable pub rest_of : ℕ → List ℕ → ℕ → ℕ → ℕ
rest_of N rules i zero = long_field rules i 0
rest_of N rules i (suc t) = N + extras rules i + t

-- ---- the ordinary rules

-- part t of rule i: of the symbols behind the first t the next one, and the nonterminal for those behind it, or the last where no more than
-- two are left
unfoldable pub part : ℕ → List ℕ → ℕ → ℕ → List ℕ
part N rules i t =
    rest_of N rules i t
    ∷ min 2 (long_field rules i 1)
    ∷ long_field rules i (2 + t)
    ∷ cond (ltb (t + 2) (long_field rules i 1)) (64 + rest_of N rules i (suc t)) (long_field rules i (3 + t))
    ∷ []

-- a rule has one part, and one more for each new nonterminal
abbrev pub parts : List ℕ → ℕ → ℕ
parts rules i = suc (extra rules i)

abbrev pub IsPart : ℕ → List ℕ → List ℕ → Type 0
IsPart N rules e = (i t : ℕ) × (i < long_count rules) × (t < parts rules i) × (e ≡ part N rules i t)

-- all parts of the first n rules, in the order of the rules
unfoldable pub parts_of : ℕ → List ℕ → ℕ → ℕ → List (List ℕ)
parts_of N rules i zero = []
parts_of N rules i (suc t) = parts_of N rules i t ++ (part N rules i t ∷ [])

unfoldable pub all_parts : ℕ → List ℕ → ℕ → List (List ℕ)
all_parts N rules zero = []
all_parts N rules (suc n) = all_parts N rules n ++ parts_of N rules n (parts rules n)
