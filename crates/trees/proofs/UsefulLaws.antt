-- Useful nonterminals (specs/Trees.antt). The rules of a useful nonterminal that derive some string have only useful nonterminals, so the
-- subtrees of its trees stand under useful ones. And each string of a nonterminal that is reached stands inside a string of the start:
-- along the way from the start each rule's other symbols give what stands before and after. Assumes nothing.
use mathlib.Core.List.{List, [], ◌∷◌, ◌++◌, append_assoc, append-nil}
use Prim.Native.Nat.{ℕ}
use native.Mathlib.Omega.{arith}
use Rattle.words.specs.Tags.{Tag}
use Rattle.template.specs.Grammar.{Symbol, nonterminal}
use Rattle.trees.specs.Trees.{AllProductive, Reached, start_reached, rule_reached, Useful}
use Rattle.trees.proofs.HeightLaws.{Generates, yields_within, within_split, within_generates, generates_append, generates_node}
use Rattle.trees.proofs.MarkLaws.{AllNonterminals, all_both, HasTree, productive_each, rule_all_reached}

module _ {Rule : ℕ → List Symbol → Type 0} where
  pub rule_useful : {x : ℕ} {rhs : List Symbol} → Useful Rule x → Rule x rhs → AllProductive Rule rhs
      → AllNonterminals (Useful Rule) rhs
  rule_useful {rhs = rhs} (t, c) rule p =
      all_both (HasTree Rule) (Reached Rule) rhs ((productive_each Rule rhs).0 p) (rule_all_reached Rule c rule p)

  -- the start is useful where it has a string
  pub start_useful : {w : List Tag} → Generates Rule (nonterminal 0 ∷ []) w → Useful Rule 0
  start_useful {w} (n, t) = ((w, n, t), start_reached)

  -- every string of a nonterminal that is reached stands in a string of the start
  pub context : {x : ℕ} → Reached Rule x
      → (l r : List Tag) × ((w : List Tag) → Generates Rule (nonterminal x ∷ []) w → Generates Rule (nonterminal 0 ∷ []) (l ++ (w ++ r)))
  context start_reached = ([], [], λ w g. rw append-nil g)
  context (rule_reached {y = y} ls rs c rule (v, n, t)) =
      let (l, r, f) = context c in
      let (u, m, e, p, q) = within_split ls (yields_within n (omega arith) t) in
      let (h, k, d, a, b) = within_split (nonterminal y ∷ []) q in (
        l ++ u,
        k ++ r,
        λ w g.
            let inner = generates_append (within_generates p) (generates_append g (within_generates b)) in
            simp append_assoc (simp append_assoc at (f (u ++ (w ++ k)) (generates_node rule inner))),
      )
