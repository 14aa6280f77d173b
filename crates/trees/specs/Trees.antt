-- Derivation trees of a grammar, and useful nonterminals. Rules, section 8: a tree whose top rule has no nonterminal has height 1, another
-- is 1 more than the highest tree below it; useful is what derives a string itself, and is reached from the start by rules in which every
-- nonterminal derives one.
use Rattle.std.specs.Prelude.{List, [], ◌∷◌, ◌++◌, ℕ, suc, max}
use Rattle.words.specs.Tags.{Tag}
use Rattle.template.specs.Grammar.{Symbol, tag, nonterminal}

module _ (Rule : ℕ → List Symbol → Type 0) where
  -- the symbols, each nonterminal under a tree, give the string; the highest of these trees has that height, 0 where there is none
  pub data Yields : List Symbol → List Tag → ℕ → Type 0 where
    yields_nothing : Yields [] [] 0
    yields_tag : {t : Tag} {ss : List Symbol} {w : List Tag} {n : ℕ} → Yields ss w n → Yields (tag t ∷ ss) (t ∷ w) n
    yields_tree : {x : ℕ} {rhs ss : List Symbol} {u w : List Tag} {m n : ℕ} → Rule x rhs → Yields rhs u m → Yields ss w n
        → Yields (nonterminal x ∷ ss) (u ++ w) (max (suc m) n)

  -- a tree of the nonterminal, with its string and its height
  abbrev pub Tree : ℕ → List Tag → ℕ → Type 0
  Tree x w n = Yields (nonterminal x ∷ []) w n

  -- the symbols derive some tag string, and a nonterminal does
  abbrev pub AllProductive : List Symbol → Type 0
  AllProductive ss = (w : List Tag) × (n : ℕ) × Yields ss w n

  abbrev pub Productive : ℕ → Type 0
  Productive x = AllProductive (nonterminal x ∷ [])

  -- the start, and what a right side of something reached has, if the whole right side derives some string
  pub data Reached : ℕ → Type 0 where
    start_reached : Reached 0
    rule_reached : {x y : ℕ} (l r : List Symbol) → Reached x → Rule x (l ++ (nonterminal y ∷ r))
        → AllProductive (l ++ (nonterminal y ∷ r)) → Reached y

  abbrev pub Useful : ℕ → Type 0
  Useful x = Productive x × Reached x
