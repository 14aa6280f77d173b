-- Marks of nonterminals, for those that derive some string and those that are reached (specs/Trees.antt). Symbols derive some string when
-- each of their nonterminals does. Marks that no rule extends hold all that have a tree, by induction on the tree, and all that are
-- reached, by induction on the way from the start; marks that were each set for a reason hold no others. Assumes nothing.
use mathlib.Core.Path.{◌≡◌, refl, ap}
use mathlib.Core.List.{List, [], ◌∷◌, ◌++◌}
use mathlib.Core.Logic.{◌↔◌}
use Prim.Native.Nat.{ℕ}
use Rattle.words.specs.Tags.{Tag}
use Rattle.template.specs.Grammar.{Symbol, tag, nonterminal}
use Rattle.trees.specs.Trees.{Yields, yields_nothing, yields_tag, yields_tree, AllProductive, Reached, start_reached, rule_reached}
use Rattle.trees.proofs.HeightLaws.{generates_append, generates_node}

-- each nonterminal among the symbols

abbrev pub AllNonterminals : (ℕ → Type 0) → List Symbol → Type 0
AllNonterminals P [] = Unit {0}
AllNonterminals P (tag t ∷ ss) = AllNonterminals P ss
AllNonterminals P (nonterminal x ∷ ss) = P x × AllNonterminals P ss

module _ (P : ℕ → Type 0) where
  pub all_place : (l r : List Symbol) (y : ℕ) → AllNonterminals P (l ++ (nonterminal y ∷ r)) → P y
  all_place [] r y (p, a) = p
  all_place (tag t ∷ l) r y a = all_place l r y a
  all_place (nonterminal x ∷ l) r y (p, a) = all_place l r y a

  pub all_places : (ss : List Symbol) → ((l r : List Symbol) (y : ℕ) → l ++ (nonterminal y ∷ r) ≡ ss → P y) → AllNonterminals P ss
  all_places [] f = tt
  all_places (tag t ∷ ss) f = all_places ss (λ l r y e. f (tag t ∷ l) r y (ap (λ z. tag t ∷ z) e))
  all_places (nonterminal x ∷ ss) f =
      (f [] ss x refl, all_places ss (λ l r y e. f (nonterminal x ∷ l) r y (ap (λ z. nonterminal x ∷ z) e)))

  pub all_append : (l r : List Symbol) → AllNonterminals P l → AllNonterminals P r → AllNonterminals P (l ++ r)
  all_append [] r a b = b
  all_append (tag t ∷ l) r a b = all_append l r a b
  all_append (nonterminal x ∷ l) r (p, a) b = (p, all_append l r a b)

  module _ (Q : ℕ → Type 0) where
    pub all_map : ((x : ℕ) → P x → Q x) → (ss : List Symbol) → AllNonterminals P ss → AllNonterminals Q ss
    all_map f [] a = tt
    all_map f (tag t ∷ ss) a = all_map f ss a
    all_map f (nonterminal x ∷ ss) (p, a) = (f x p, all_map f ss a)

    pub all_both : (ss : List Symbol) → AllNonterminals P ss → AllNonterminals Q ss → AllNonterminals (λ x. P x × Q x) ss
    all_both [] a b = tt
    all_both (tag t ∷ ss) a b = all_both ss a b
    all_both (nonterminal x ∷ ss) (p, a) (q, b) = ((p, q), all_both ss a b)

module _ (Rule : ℕ → List Symbol → Type 0) where
  -- the nonterminal derives some string
  abbrev pub HasTree : ℕ → Type 0
  HasTree x = AllProductive Rule (nonterminal x ∷ [])

  -- every rule whose right side is marked has its left side marked
  abbrev pub ClosedUp : (ℕ → Type 0) → Type 0
  ClosedUp M = (x : ℕ) (rhs : List Symbol) → Rule x rhs → AllNonterminals M rhs → M x

  -- every rule of a marked left side marks its right side, where that derives some string
  abbrev pub ClosedDown : (ℕ → Type 0) → Type 0
  ClosedDown M = (x : ℕ) (rhs : List Symbol) → M x → Rule x rhs → AllProductive Rule rhs → AllNonterminals M rhs

  -- symbols derive some string when each of their nonterminals does

  pub all_have_trees : {ss : List Symbol} {w : List Tag} {n : ℕ} → Yields Rule ss w n → AllNonterminals HasTree ss
  all_have_trees yields_nothing = tt
  all_have_trees (yields_tag y) = all_have_trees y
  all_have_trees (yields_tree {u = u} {m = m} rule y z) =
      let (n, t) = generates_node rule (m, y) in
      ((u, n, t), all_have_trees z)

  pub all_productive : (ss : List Symbol) → AllNonterminals HasTree ss → AllProductive Rule ss
  all_productive [] a = ([], 0, yields_nothing)
  all_productive (tag t ∷ ss) a = let (w, n, y) = all_productive ss a in (t ∷ w, n, yields_tag y)
  all_productive (nonterminal x ∷ ss) ((u, m, t), a) =
      let (w, n, y) = all_productive ss a in
      let (k, z) = generates_append (m, t) (n, y) in
      (u ++ w, k, z)

  pub productive_each : (ss : List Symbol) → AllProductive Rule ss ↔ AllNonterminals HasTree ss
  productive_each ss = (λ (w, n, y). all_have_trees y, all_productive ss)

  pub rule_productive : {x : ℕ} {rhs : List Symbol} → Rule x rhs → AllProductive Rule rhs → HasTree x
  rule_productive rule (w, n, y) = let (m, t) = generates_node rule (n, y) in (w, m, t)

  -- the nonterminals of a rule that is reached and derives some string are reached
  pub rule_all_reached : {x : ℕ} {rhs : List Symbol} → Reached Rule x → Rule x rhs → AllProductive Rule rhs
      → AllNonterminals (Reached Rule) rhs
  rule_all_reached {rhs = rhs} c rule p =
      all_places (Reached Rule) rhs (λ l r y e. rule_reached l r c (rw e rule) (rw e p))

  -- marks

  module _ (M : ℕ → Type 0) where
    pub marked_yields : ClosedUp M → {ss : List Symbol} {w : List Tag} {n : ℕ} → Yields Rule ss w n → AllNonterminals M ss
    marked_yields f yields_nothing = tt
    marked_yields f (yields_tag y) = marked_yields f y
    marked_yields f (yields_tree {x = x} {rhs = rhs} rule y z) = (f x rhs rule (marked_yields f y), marked_yields f z)

    pub marked_productive : ClosedUp M → (x : ℕ) → HasTree x → M x
    marked_productive f x (w, n, t) = (marked_yields f t).0

    -- a mark that a rule sets has its reason where those on the right side have theirs
    pub mark_productive : ((y : ℕ) → M y → HasTree y) → {x : ℕ} {rhs : List Symbol} → Rule x rhs → AllNonterminals M rhs → HasTree x
    mark_productive f {x} {rhs} rule a = rule_productive rule (all_productive rhs (all_map M HasTree f rhs a))

    pub marks_productive : ClosedUp M → ((y : ℕ) → M y → HasTree y) → (x : ℕ) → M x ↔ HasTree x
    marks_productive f g x = (g x, marked_productive f x)

    pub marked_reached : M 0 → ClosedDown M → {x : ℕ} → Reached Rule x → M x
    marked_reached z f start_reached = z
    marked_reached z f (rule_reached {x = x} {y = y} l r c rule p) =
        all_place M l r y (f x (l ++ (nonterminal y ∷ r)) (marked_reached z f c) rule p)

    pub marks_reached : M 0 → ClosedDown M → ((y : ℕ) → M y → Reached Rule y) → (x : ℕ) → M x ↔ Reached Rule x
    marks_reached z f g x = (g x, λ c. marked_reached z f c)
