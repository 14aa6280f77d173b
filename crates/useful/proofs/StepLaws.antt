-- What a step at one rule finds, in the words in which the code has it. Upward: the left side of a rule derives a string where each
-- nonterminal of its right side does. Downward: the nonterminals of a rule that is reached and derives some string are reached. Where a
-- test fails there is nothing to keep. Assumes nothing.
use Rattle.std.proofs.lemmas.Bool.{and_parts}
use mathlib.Core.Path.{◌≡◌, refl, sym, ◌∙◌}
use mathlib.Core.Logic.{◌↔◌}
use mathlib.Core.Bool.{Bool, true, false, false≢true, ◌&&◌}
use mathlib.Core.List.{List}
use Prim.Native.Nat.{ℕ, ◌/◌, ◌<◌}
use native.Mathlib.Omega.{arith}
use lib.Dec.{ltb}
use lib.ListN.{length}
use borrow.Author.Tests.{ltb-true}
use Rattle.numbers.specs.Fields.{field}
use Rattle.numbers.specs.Bits.{bit}
use Rattle.template.specs.Grammar.{right_side, Gives}
use Rattle.trees.specs.Trees.{AllProductive, Reached}
use Rattle.trees.proofs.MarkLaws.{AllNonterminals, all_map, all_both, HasTree, all_productive, productive_each, rule_all_reached, mark_productive}
use Rattle.useful.specs.Marks.{RulesInRange, AllMarked, MarksAll, Justified, Passed, KeptUp, KeptDown}
use Rattle.trees.specs.Trees.{Productive}
use Rattle.useful.specs.Marks.{slot_marked, with_mark, with_slot}
use Rattle.useful.proofs.SlotLaws.{Marked, Slot, right_slots, marked_each, slot_test}
use Rattle.useful.proofs.PassLaws.{passed_same, passed_map, passed_both, mark_passed, slot_passed}

module _ (rules : List ℕ) (in_range : RulesInRange rules) (i : ℕ) (hi : i < length rules / 4) where
  -- ---- the fields of a rule

  pub left_small : (v : ℕ) → v ≡ field rules i 0 → v < 64
  left_small v e = rw e (in_range.left_below i hi)

  first_small : ltb 0 (field rules i 1) ≡ true → field rules i 2 < 128
  first_small u = in_range.first_below i hi (ltb-true 0 (field rules i 1) u)

  second_small : ltb 1 (field rules i 1) ≡ true → field rules i 3 < 128
  second_small u = in_range.second_below i hi (ltb-true 1 (field rules i 1) u)

  pub right_below : AllNonterminals (λ x. x < 64) (right_side rules i)
  right_below =
      (right_slots (λ x. x < 64) rules i).1 (λ u h. omega (arith, first_small u), λ u h. omega (arith, second_small u))

  -- ---- the test of the right side

  pub all_marked_tests : (marks n b d : ℕ) (s t : Bool) → n ≡ field rules i 1 → b ≡ field rules i 2 → d ≡ field rules i 3
      → s ≡ slot_marked (ltb 0 n) b marks → t ≡ slot_marked (ltb 1 n) d marks
      → ((s && t) ≡ true) ↔ AllMarked (bit marks) (right_side rules i)
  all_marked_tests marks n b d s t en eb ed es et =
      let first = slot_test (ltb 0 (field rules i 1)) (field rules i 2) marks first_small in
      let second = slot_test (ltb 1 (field rules i 1)) (field rules i 3) marks second_small in
      let slots = right_slots (Marked marks) rules i in
      let each = marked_each marks (right_side rules i) in
      rw (es, et, en, eb, ed) (
        λ e. let (p, q) = and_parts (slot_marked (ltb 0 (field rules i 1)) (field rules i 2) marks) _ e in
            each.1 (slots.1 (first.0 p, second.0 q)),
        λ a. let (p, q) = slots.0 (each.0 a) in rw (first.1 p, second.1 q),
      )

  -- ---- a step upward

  module _ (marks : ℕ) (t : Bool) (test : (t ≡ true) ↔ AllMarked (bit marks) (right_side rules i)) where
    pub step_up_on : (v next : ℕ) → t ≡ true → v ≡ field rules i 0 → next ≡ with_mark marks v
        → Passed (Productive (Gives rules)) (KeptUp rules i) marks next
    step_up_on v next on ev en =
        let left = field rules i 0 in
        let a = (marked_each marks (right_side rules i)).0 (test.0 on) in
        rw (en, ev)
        (passed_map (Productive (Gives rules)) (λ m. Marked m left) (KeptUp rules i) marks (with_mark marks left) (λ m b. m)
        (mark_passed (Productive (Gives rules)) marks left (λ f. mark_productive (Gives rules) (Marked marks) f.reason (i, hi, refl, refl) a)))

    pub step_up_off : t ≡ false → Passed (Productive (Gives rules)) (KeptUp rules i) marks marks
    step_up_off off =
        passed_same (Productive (Gives rules)) (KeptUp rules i) marks (λ a. absurd (false≢true (sym off ∙ test.1 a)))

  -- ---- a step downward

  module _ (productive : ℕ) (all : MarksAll productive (Productive (Gives rules))) where
    pub right_productive : AllMarked (bit productive) (right_side rules i) → AllProductive (Gives rules) (right_side rules i)
    right_productive a =
        let ss = right_side rules i in
        let both = all_both (λ x. x < 64) (Marked productive) ss right_below ((marked_each productive ss).0 a) in
        all_productive (Gives rules) ss
        (all_map (λ x. (x < 64) × Marked productive x) (HasTree (Gives rules)) (λ x (h, m). (all x h).0 m) ss both)

    -- and back: no mark is missing
    pub right_marked : AllProductive (Gives rules) (right_side rules i) → AllMarked (bit productive) (right_side rules i)
    right_marked t =
        let ss = right_side rules i in
        let both = all_both (λ x. x < 64) (HasTree (Gives rules)) ss right_below ((productive_each (Gives rules) ss).0 t) in
        (marked_each productive ss).1
        (all_map (λ x. (x < 64) × HasTree (Gives rules) x) (Marked productive) (λ x (h, u). (all x h).1 u) ss both)

    -- the nonterminals of the right side are reached, as far as the marks are
    right_reached : AllMarked (bit productive) (right_side rules i) → (m : ℕ) → Marked m (field rules i 0)
        → Justified (Reached (Gives rules)) m → AllNonterminals (Reached (Gives rules)) (right_side rules i)
    right_reached a m t f =
        rule_all_reached (Gives rules) (f.reason (field rules i 0) t) (i, hi, refl, refl) (right_productive a)

    pub step_down_right_off : (marks : ℕ) (u : Bool) → (u ≡ true) ↔ AllMarked (bit productive) (right_side rules i) → u ≡ false
        → Passed (Reached (Gives rules)) (KeptDown rules productive i) marks marks
    step_down_right_off marks u test off =
        passed_same (Reached (Gives rules)) (KeptDown rules productive i) marks (λ m a. absurd (false≢true (sym off ∙ test.1 a)))

    module _ (marks v : ℕ) (t : Bool) (ev : v ≡ field rules i 0) (et : t ≡ bit marks v) where
      pub step_down_left_off : t ≡ false → Passed (Reached (Gives rules)) (KeptDown rules productive i) marks marks
      step_down_left_off off =
          let e : bit marks (field rules i 0) ≡ false = rw (← ev, ← et) off in
          passed_same (Reached (Gives rules)) (KeptDown rules productive i) marks (λ m a. absurd (false≢true (sym e ∙ m)))

      pub step_down_on : (u : Bool) (n b d m next : ℕ) → t ≡ true
          → (u ≡ true) ↔ AllMarked (bit productive) (right_side rules i) → u ≡ true
          → n ≡ field rules i 1 → b ≡ field rules i 2 → d ≡ field rules i 3
          → m ≡ with_slot (ltb 0 n) b marks → next ≡ with_slot (ltb 1 n) d m
          → Passed (Reached (Gives rules)) (KeptDown rules productive i) marks next
      step_down_on u n b d m next on test on' en eb ed em ex =
          let R = Reached (Gives rules) in
          let used = ltb 0 (field rules i 1) in
          let used' = ltb 1 (field rules i 1) in
          let m' = with_slot used (field rules i 2) marks in
          let left : Marked marks (field rules i 0) = rw (← ev, ← et) on in
          let reached = right_reached (test.0 on') in
          let slots = right_slots R rules i in
          let first = slot_passed R used (field rules i 2) marks first_small (λ f. (slots.0 (reached marks left f)).0) in
          let second = slot_passed R used' (field rules i 3) m' second_small
          (λ f. (slots.0 (reached m' (first.stay (field rules i 0) left) f)).1) in
          rw (ex, em, en, eb, ed)
          (passed_map R (λ k. Slot (Marked k) used (field rules i 2) × Slot (Marked k) used' (field rules i 3))
          (KeptDown rules productive i) marks (with_slot used' (field rules i 3) m')
          (λ s l a. (marked_each marks (right_side rules i)).1 ((right_slots (Marked marks) rules i).1 s))
          (passed_both R (λ k. Slot (Marked k) used (field rules i 2)) (λ k. Slot (Marked k) used' (field rules i 3)) marks m'
          (with_slot used' (field rules i 3) m') first second))
