-- For callers: what is reached is useful, where the start derives some string. The start does by assumption, and any other nonterminal
-- stands in the rule that reached it, whose nonterminals all do. And the template rules of a sound file are as marks need them: its
-- numbers are in bounds, and so are the symbols of its right sides, place by place. Assumes nothing.
use mathlib.Core.Path.{◌≡◌}
use mathlib.Core.Bool.{Bool, true}
use mathlib.Core.List.{List, [], ◌∷◌}
use Prim.Native.Nat.{ℕ, ◌/◌, ◌≤◌, ◌<◌}
use native.Mathlib.Decide.{dec_lt}
use native.Mathlib.Omega.{arith}
use lib.Dec.{ltb}
use lib.ListN.{length}
use borrow.Author.Tests.{lt-ltb}
use Rattle.numbers.specs.Fields.{field}
use Rattle.numbers.specs.Bits.{bit}
use Rattle.template.specs.Layout.{name_count, nonterminals, template_rules}
use Rattle.template.specs.Grammar.{Symbol, tag, nonterminal, right_side, Gives}
use Rattle.template.proofs.SoundLaws.{SoundFile}
use Rattle.template.proofs.ListLaws.{rules_count}
use Rattle.template.proofs.GrammarLaws.{SymbolsBelow, rule_below}
use Rattle.trees.specs.Trees.{Reached, start_reached, rule_reached, Useful}
use Rattle.trees.proofs.MarkLaws.{AllNonterminals, all_place, HasTree, productive_each}
use Rattle.useful.specs.Marks.{RulesInRange, MarksAll}
use Rattle.trees.specs.Trees.{Productive}
use Rattle.useful.proofs.SlotLaws.{Slot, right_slots}

-- ---- what is reached is useful

pub reached_productive : (rules : List ℕ) → Productive (Gives rules) 0 → {x : ℕ} → Reached (Gives rules) x → Productive (Gives rules) x
reached_productive rules t start_reached = t
reached_productive rules t (rule_reached {y = y} l r c rule p) =
    all_place (HasTree (Gives rules)) l r y ((productive_each (Gives rules) _).0 p)

pub marks_useful : (rules : List ℕ) (productive reached : ℕ) → MarksAll productive (Productive (Gives rules)) → bit productive 0 ≡ true
    → MarksAll reached (Reached (Gives rules)) → MarksAll reached (Useful (Gives rules))
marks_useful rules productive reached all start marks x h = (
  λ m.
      let c = (marks x h).0 m in
      (reached_productive rules ((all 0 (omega arith)).0 start) c, c),
  λ u. (marks x h).1 u.1,
)

-- ---- the rules of a sound file

symbols_nonterminals : (A N : ℕ) (ss : List Symbol) → SymbolsBelow A N ss → AllNonterminals (λ x. x < N) ss
symbols_nonterminals A N [] a = tt
symbols_nonterminals A N (tag t ∷ ss) (p, a) = symbols_nonterminals A N ss a
symbols_nonterminals A N (nonterminal x ∷ ss) (p, a) = (p, symbols_nonterminals A N ss a)

slot_small : (N b : ℕ) (used : Bool) → N ≤ 64 → Slot (λ x. x < N) used b → used ≡ true → b < 128
slot_small N b used h s u = elim (dec_lt b 64) [ yes l ↦ omega arith | no l ↦ omega (arith, s u (omega arith)) ]

module _ (f : List ℕ) (s : SoundFile f) where
  rule_at : (i : ℕ) → i < length (template_rules f) / 4
      → (field (template_rules f) i 0 < nonterminals f)
      × AllNonterminals (λ x. x < nonterminals f) (right_side (template_rules f) i)
  rule_at i h =
      let p = rule_below f s i (rw (rules_count f s) at h) in
      (p.0, symbols_nonterminals (name_count f) (nonterminals f) (right_side (template_rules f) i) p.2)

  pub sound_in_range : RulesInRange (template_rules f)
  sound_in_range =
      let rules = template_rules f in
      let N = nonterminals f in
      record {
        left_below = λ i h. omega (arith, (rule_at i h).0, s.few_nonterminals);
        first_below = λ i h u.
            slot_small N (field rules i 2) (ltb 0 (field rules i 1)) s.few_nonterminals
            ((right_slots (λ x. x < N) rules i).0 (rule_at i h).1).0 (lt-ltb 0 (field rules i 1) u);
        second_below = λ i h u.
            slot_small N (field rules i 3) (ltb 1 (field rules i 1)) s.few_nonterminals
            ((right_slots (λ x. x < N) rules i).0 (rule_at i h).1).1 (lt-ltb 1 (field rules i 1) u);
      }
