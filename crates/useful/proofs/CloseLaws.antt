-- Where the passes come to an end: a pass that adds no mark has kept every rule, so the marks are all that derive a string, and all that
-- are reached (MarkLaws of trees). And the laws that `search passes` chains, in the words in which the code has its facts.
-- Assumes nothing.
use mathlib.Core.Path.{◌≡◌, refl, sym, ◌∙◌}
use mathlib.Core.Bool.{true, false≢true}
use mathlib.Core.List.{List}
use Prim.Native.Nat.{ℕ, ◌*◌, ◌%◌, ◌^◌, ◌<◌}
use native.Mathlib.Omega.{arith}
use lib.Bits.{bit_or}
use borrow.Author.Rules.{rules}
use borrow.Author.Tests.{eqb-true}
use Rattle.numbers.specs.Bits.{bit}
use Rattle.std.proofs.lemmas.Nat.{one_shl}
use Rattle.numbers.proofs.BitLaws.{bit_past, bit_pow}
use Rattle.template.specs.Grammar.{Gives}
use Rattle.trees.specs.Trees.{Reached, start_reached}
use Rattle.trees.proofs.MarkLaws.{HasTree, productive_each, all_map, marked_productive, marks_productive, marks_reached}
use Rattle.useful.specs.Marks.{RulesInRange, MarksAll, Justified, Saturated, PassedUp, PassedDown, with_mark}
use Rattle.trees.specs.Trees.{Productive}
use Rattle.useful.proofs.SlotLaws.{Marked, marked_each, slot_in, slot_past, slot_low, slot_free}
use Rattle.useful.proofs.PassLaws.{steps_keep}
use Rattle.useful.proofs.StepLaws.{left_small, all_marked_tests, step_up_on, step_up_off}
use Rattle.useful.proofs.StepLaws.{step_down_on, step_down_left_off, step_down_right_off}

-- ---- the mark that is added

pub mark_value : (marks x : ℕ) → x < 64 → bit_or marks ((1 * 2 ^ x) % 2 ^ 64) ≡ with_mark marks x
unfolding with_mark
mark_value marks x h = rw (one_shl x 64 h)

module _ (rules : List ℕ) where
  -- ---- upward: at first nothing is marked

  pub nothing_justified : Justified (Productive (Gives rules)) 0
  nothing_justified =
      record { reason = λ x m. absurd (false≢true (sym (bit_past 0 0 x (omega arith) (omega arith)) ∙ m)) }

  pub productive_saturated : (R : ℕ → ℕ → Type 0) → ((m next : ℕ) → R m next → PassedUp rules m next) → (marks : ℕ)
      → Saturated R 0 marks → MarksAll marks (Productive (Gives rules))
  productive_saturated R pass marks s x h =
      let kept = (pass marks marks s.still).kept refl in
      let justified = steps_keep (λ i. R) 0 (Justified (Productive (Gives rules))) (λ i m m' r f. (pass m m' r).justified f) s.passes marks
      s.path nothing_justified in
      marks_productive (Gives rules) (Marked marks)
      (λ y rhs (i, hi, el, er) a. rw (← el) (kept.each i hi (rw er ((marked_each marks rhs).1 a)))) justified.reason x

  -- ---- downward: at first the start is marked

  pub start_marked : bit 1 0 ≡ true
  start_marked = bit_pow 0 0

  pub start_justified : Justified (Reached (Gives rules)) 1
  start_justified =
      record { reason = λ x m. let e : x ≡ 0 = eqb-true x 0 (sym (bit_pow 0 x) ∙ m) in rw e start_reached }

  -- a nonterminal that derives some string has a rule, and so a place among the marks
  pub productive_below : RulesInRange rules → (x : ℕ) → Productive (Gives rules) x → x < 64
  productive_below in_range x t =
      marked_productive (Gives rules) (λ x. x < 64) (λ y rhs (i, hi, el, er) a. rw (← el) (in_range.left_below i hi)) x t

  module _ (productive : ℕ) (in_range : RulesInRange rules) (all : MarksAll productive (Productive (Gives rules))) where
    pub reached_saturated : (R : ℕ → ℕ → Type 0) → ((m next : ℕ) → R m next → PassedDown rules productive m next) → (marks : ℕ)
        → Saturated R 1 marks → MarksAll marks (Reached (Gives rules))
    reached_saturated R pass marks s x h =
        let G = Gives rules in
        let kept = (pass marks marks s.still).kept refl in
        let start = steps_keep (λ i. R) 1 (λ m. bit m 0 ≡ true) (λ i m m' r t. (pass m m' r).stay 0 t) s.passes marks s.path start_marked in
        let justified = steps_keep (λ i. R) 1 (Justified (Reached G)) (λ i m m' r f. (pass m m' r).justified f) s.passes marks
        s.path start_justified in
        marks_reached G (Marked marks) start
        (λ y rhs m (i, hi, el, er) t.
        let trees = (productive_each G rhs).0 t in
        let a = all_map (HasTree G) (Marked productive) (λ x u. (all x (productive_below in_range x u)).1 u) rhs trees in
        let b = kept.each i hi (rw el m) (rw er ((marked_each productive rhs).1 a)) in
        (marked_each marks rhs).0 (rw er at b)) justified.reason x

pub ruleset passes = (
  slot_in,
  slot_past,
  slot_low,
  slot_free,
  mark_value,
  left_small,
  all_marked_tests,
  step_up_on,
  step_up_off,
  step_down_on,
  step_down_left_off,
  step_down_right_off,
  rules,
)
