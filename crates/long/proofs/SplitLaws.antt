-- Two grammars with the same strings. In the new one a nonterminal stands for a list of old symbols, an old one for itself. If every new
-- rule, each nonterminal of its right side put for what it stands for, is an old rule or is what its left side stands for, then what new
-- symbols give is given by the old symbols they stand for (`new_old`, by induction on the trees). If every old rule is a chain of new ones,
-- each with the next symbol and a nonterminal for the rest, then what old symbols give they give with the new rules too (`old_new`, by
-- induction on the trees; a chain gives what its symbols give, by induction on the chain). Heights are left free. Assumes nothing.
use mathlib.Core.Path.{◌≡◌}
use mathlib.Core.Logic.{◌↔◌, ◌⊎◌, inl, inr}
use mathlib.Core.List.{List, [], ◌∷◌, ◌++◌, append-nil}
use Prim.Native.Nat.{ℕ}
use Rattle.words.specs.Tags.{Tag}
use Rattle.template.specs.Grammar.{Symbol, tag, nonterminal}
use Rattle.trees.specs.Trees.{Tree, Yields, yields_nothing, yields_tag, yields_tree}
use Rattle.trees.proofs.HeightLaws.{Generates, within_split, within_generates, generates_within, generates_append, generates_node}

-- what the symbols stand for
abbrev pub expand : (ℕ → List Symbol) → List Symbol → List Symbol
expand stands [] = []
expand stands (tag t ∷ ss) = tag t ∷ expand stands ss
expand stands (nonterminal x ∷ ss) = stands x ++ expand stands ss

-- the new rules make of x what the symbols make: a rule as it is, or one with the first symbol and a nonterminal for the rest
pub data Chain (New : ℕ → List Symbol → Type 0) : ℕ → List Symbol → Type 0 where
  as_is : {x : ℕ} {ss : List Symbol} → New x ss → Chain New x ss
  split : {x y : ℕ} {s : Symbol} {ss : List Symbol} → New x (s ∷ nonterminal y ∷ []) → Chain New y ss → Chain New x (s ∷ ss)

-- whatever the height
pub generates_tag : {Rule : ℕ → List Symbol → Type 0} {t : Tag} {ss : List Symbol} {w : List Tag} → Generates Rule ss w
    → Generates Rule (tag t ∷ ss) (t ∷ w)
generates_tag (n, y) = (n, yields_tag y)

pub generates_split : {Rule : ℕ → List Symbol → Type 0} (ss : List Symbol) {ts : List Symbol} {w : List Tag} → Generates Rule (ss ++ ts) w
    → (u v : List Tag) × (w ≡ u ++ v) × Generates Rule ss u × Generates Rule ts v
generates_split ss g =
    let (u, v, e, p, q) = within_split ss (generates_within g).1 in
    (u, v, e, within_generates p, within_generates q)

-- a chain gives what its symbols give
chain_generates : {New : ℕ → List Symbol → Type 0} {x : ℕ} {ss : List Symbol} {w : List Tag} → Chain New x ss → Generates New ss w
    → Generates New (nonterminal x ∷ []) w
chain_generates (as_is rule) g = generates_node rule g
chain_generates (split {s = s} rule c) g =
    let (u, v, e, p, q) = generates_split (s ∷ []) g in
    rw e (generates_node rule (generates_append p (chain_generates c q)))

module _ (Old New : ℕ → List Symbol → Type 0) (stands : ℕ → List Symbol) where
  -- a new rule is an old one, or makes what its left side stands for
  abbrev pub Expands : ℕ → List Symbol → Type 0
  Expands x rhs = ((stands x ≡ nonterminal x ∷ []) × Old x (expand stands rhs)) ⊎ (stands x ≡ expand stands rhs)

  tree_old : (x : ℕ) (rhs : List Symbol) {u : List Tag} → Expands x rhs → Generates Old (expand stands rhs) u → Generates Old (stands x) u
  tree_old x rhs (inl (e, rule)) g = rw e (generates_node rule g)
  tree_old x rhs (inr e) g = rw e g

  module _ (expands : (x : ℕ) (rhs : List Symbol) → New x rhs → Expands x rhs) where
    pub new_old : {ss : List Symbol} {w : List Tag} {n : ℕ} → Yields New ss w n → Generates Old (expand stands ss) w
    new_old yields_nothing = (0, yields_nothing)
    new_old (yields_tag p) = generates_tag (new_old p)
    new_old (yields_tree {x = x} {rhs = rhs} rule p q) = generates_append (tree_old x rhs (expands x rhs rule) (new_old p)) (new_old q)

  module _ (chains : (x : ℕ) (rhs : List Symbol) → Old x rhs → Chain New x rhs) where
    pub old_new : {ss : List Symbol} {w : List Tag} {n : ℕ} → Yields Old ss w n → Generates New ss w
    old_new yields_nothing = (0, yields_nothing)
    old_new (yields_tag p) = generates_tag (old_new p)
    old_new (yields_tree {x = x} {rhs = rhs} rule p q) = generates_append (chain_generates (chains x rhs rule) (old_new p)) (old_new q)

  -- a nonterminal that stands for itself has the same strings
  pub split_strings : ((x : ℕ) (rhs : List Symbol) → New x rhs → Expands x rhs)
      → ((x : ℕ) (rhs : List Symbol) → Old x rhs → Chain New x rhs)
      → (x : ℕ) → stands x ≡ nonterminal x ∷ [] → (w : List Tag) → ((n : ℕ) × Tree Old x w n) ↔ ((n : ℕ) × Tree New x w n)
  split_strings expands chains x e w = (
    λ t. old_new chains t.1,
    λ t. rw (append-nil, e) at (new_old expands t.1),
  )
