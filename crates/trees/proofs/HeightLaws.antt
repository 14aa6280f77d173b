-- Trees by a bound on their height (specs/Trees.antt). `YieldsWithin r` says of the symbols that every tree is at most r high; its rule
-- for a tree takes the bound down by one, so inductions need no maximum. It is `Yields` with some height at most r, and what follows is
-- by induction on it: two lists of symbols in a row, the root of a tree. Assumes nothing.
use mathlib.Core.Path.{◌≡◌, refl, sym, ap, ◌∙◌}
use mathlib.Core.List.{List, [], ◌∷◌, ◌++◌, append_assoc, append-nil}
use Prim.Native.Nat.{ℕ, zero, suc, ◌≤◌, max, zero-le}
use native.Mathlib.Omega.{arith}
use Rattle.words.specs.Tags.{Tag}
use Rattle.template.specs.Grammar.{Symbol, tag, nonterminal}
use Rattle.trees.specs.Trees.{Yields, yields_nothing, yields_tag, yields_tree}

-- the symbols, each nonterminal under a tree at most r high, give the string
pub data YieldsWithin (Rule : ℕ → List Symbol → Type 0) : ℕ → List Symbol → List Tag → Type 0 where
  within_nothing : {r : ℕ} → YieldsWithin Rule r [] []
  within_tag : {t : Tag} {ss : List Symbol} {w : List Tag} {r : ℕ} → YieldsWithin Rule r ss w → YieldsWithin Rule r (tag t ∷ ss) (t ∷ w)
  within_tree : {x : ℕ} {rhs ss : List Symbol} {u w : List Tag} {r : ℕ} → Rule x rhs → YieldsWithin Rule r rhs u
      → YieldsWithin Rule (suc r) ss w → YieldsWithin Rule (suc r) (nonterminal x ∷ ss) (u ++ w)

-- the symbols give the string, whatever the height
abbrev pub Generates : (ℕ → List Symbol → Type 0) → List Symbol → List Tag → Type 0
Generates Rule ss w = (n : ℕ) × Yields Rule ss w n

module _ {Rule : ℕ → List Symbol → Type 0} where
  -- the bound and the height

  pub yields_within : {ss : List Symbol} {w : List Tag} {n : ℕ} (r : ℕ) → n ≤ r → Yields Rule ss w n → YieldsWithin Rule r ss w
  yields_within r h yields_nothing = within_nothing
  yields_within r h (yields_tag p) = within_tag (yields_within r h p)
  yields_within zero h (yields_tree rule p q) = absurd (omega arith)
  yields_within (suc r) h (yields_tree rule p q) =
      within_tree rule (yields_within r (omega arith) p) (yields_within (suc r) (omega arith) q)

  pub within_yields : {r : ℕ} {ss : List Symbol} {w : List Tag} → YieldsWithin Rule r ss w → (n : ℕ) × (n ≤ r) × Yields Rule ss w n
  within_yields within_nothing = (0, zero-le, yields_nothing)
  within_yields (within_tag p) = let (n, h, y) = within_yields p in (n, h, yields_tag y)
  within_yields (within_tree rule p q) =
      let (m, h, y) = within_yields p in
      let (n, k, z) = within_yields q in
      (max (suc m) n, omega arith, yields_tree rule y z)

  -- no tree has height 0
  pub within_none : {x : ℕ} {ss : List Symbol} {w : List Tag} → YieldsWithin Rule 0 (nonterminal x ∷ ss) w → ⊥
  within_none p = elim p [ ]

  -- two lists of symbols in a row

  pub within_append : {r : ℕ} {ss ts : List Symbol} {u v : List Tag} → YieldsWithin Rule r ss u → YieldsWithin Rule r ts v
      → YieldsWithin Rule r (ss ++ ts) (u ++ v)
  within_append within_nothing q = q
  within_append (within_tag p) q = within_tag (within_append p q)
  within_append (within_tree rule p t) q = rw append_assoc (within_tree rule p (within_append t q))

  pub within_split : {r : ℕ} (ss : List Symbol) {ts : List Symbol} {w : List Tag} → YieldsWithin Rule r (ss ++ ts) w
      → (u v : List Tag) × (w ≡ u ++ v) × YieldsWithin Rule r ss u × YieldsWithin Rule r ts v
  within_split [] {w = w} p = ([], w, refl, within_nothing, p)
  within_split (s ∷ ss) (within_tag {t = t} p) =
      let (u, v, e, f, g) = within_split ss p in
      (t ∷ u, v, ap (λ l. t ∷ l) e, within_tag f, g)
  within_split (s ∷ ss) (within_tree {u = u} rule p q) =
      let (y, v, e, f, g) = within_split ss q in
      (u ++ y, v, ap (λ l. u ++ l) e ∙ sym (append_assoc u y v), within_tree rule p f, g)

  -- a tree is its root's rule over lower trees

  pub within_root : {r x : ℕ} {w : List Tag} → YieldsWithin Rule (suc r) (nonterminal x ∷ []) w
      → (rhs : List Symbol) × Rule x rhs × YieldsWithin Rule r rhs w
  within_root (within_tree {rhs = rhs} rule p within_nothing) = (rhs, rule, rw append-nil p)

  pub within_node : {r x : ℕ} {rhs : List Symbol} {w : List Tag} → Rule x rhs → YieldsWithin Rule r rhs w
      → YieldsWithin Rule (suc r) (nonterminal x ∷ []) w
  within_node rule p = rw append-nil at (within_tree rule p within_nothing)

  -- the same whatever the height

  pub within_generates : {r : ℕ} {ss : List Symbol} {w : List Tag} → YieldsWithin Rule r ss w → Generates Rule ss w
  within_generates p = let (n, h, y) = within_yields p in (n, y)

  pub generates_within : {ss : List Symbol} {w : List Tag} → Generates Rule ss w → (r : ℕ) × YieldsWithin Rule r ss w
  generates_within (n, y) = (n, yields_within n (omega arith) y)

  pub generates_append : {ss ts : List Symbol} {u v : List Tag} → Generates Rule ss u → Generates Rule ts v
      → Generates Rule (ss ++ ts) (u ++ v)
  generates_append (m, y) (n, z) =
      within_generates (within_append (yields_within (max m n) (omega arith) y) (yields_within (max m n) (omega arith) z))

  pub generates_node : {x : ℕ} {rhs : List Symbol} {w : List Tag} → Rule x rhs → Generates Rule rhs w
      → Generates Rule (nonterminal x ∷ []) w
  generates_node rule g = within_generates (within_node rule (generates_within g).1)
