-- Steps of a pass (`Passed` of specs/Marks.antt): two in a row are one that keeps both, since marks that end where they began never grew
-- in between; so steps at one rule after the other make a pass. Setting a mark is a step, and so is marking the symbol of a place: bit
-- by bit, from the bits of a union and of a power. Assumes nothing.
use Rattle.std.proofs.lemmas.Bool.{or_cases}
use mathlib.Core.Path.{◌≡◌, refl}
use mathlib.Core.Logic.{⊎_elim}
use mathlib.Core.Bool.{Bool, true, false, or-true, ◌||◌}
use Prim.Native.Nat.{ℕ, zero, suc, ◌+◌, ◌^◌, ◌-◌, ◌≤◌, ◌<◌}
use native.Mathlib.Numerals.{add-one}
use native.Mathlib.Decide.{dec_lt}
use native.Mathlib.Omega.{arith}
use lib.Bits.{or_add_and, and_le_r}
use lib.Dec.{eqb}
use borrow.Author.Tests.{eqb-true, eq-eqb, lt-ltb, le-leb, lt-leb}
use Rattle.numbers.specs.Bits.{bit}
use Rattle.numbers.proofs.BitLaws.{bit-or, bit_pow}
use Rattle.useful.specs.Marks.{StepsTo, Justified, Passed, KeptBelow, at_slot, with_mark, with_slot}
use Rattle.useful.proofs.SlotLaws.{Marked, Slot, slot_unused}

-- ---- the bits of one mark more

pub mark_bit : (marks x k : ℕ) → bit (with_mark marks x) k ≡ (bit marks k || eqb k x)
unfolding with_mark
mark_bit marks x k = rw (bit-or marks (2 ^ x) k, bit_pow x k)

mark_set : (marks x : ℕ) → Marked (with_mark marks x) x
mark_set marks x = rw (mark_bit marks x x, eq-eqb x x refl, or-true)

mark_grows : (marks x : ℕ) → marks ≤ with_mark marks x
unfolding with_mark
mark_grows marks x = omega (arith, or_add_and marks (2 ^ x), and_le_r marks (2 ^ x))

module _ (P : ℕ → Type 0) where
  -- ---- no step, two steps, the rules one after the other

  pub passed_same : (Kept : ℕ → Type 0) (marks : ℕ) → Kept marks → Passed P Kept marks marks
  passed_same Kept marks k = record { stay = λ x m. m; grow = omega arith; justified = λ f. f; kept = λ e. k }

  pub passed_map : (Kept Also : ℕ → Type 0) (marks next : ℕ) → (Kept marks → Also marks) → Passed P Kept marks next
      → Passed P Also marks next
  passed_map Kept Also marks next f p =
      record { stay = p.stay; grow = p.grow; justified = p.justified; kept = λ e. f (p.kept e) }

  pub passed_both : (Kept Also : ℕ → Type 0) (marks m next : ℕ) → Passed P Kept marks m → Passed P Also m next
      → Passed P (λ n. Kept n × Also n) marks next
  passed_both Kept Also marks m next p q =
      record {
        stay = λ x t. q.stay x (p.stay x t);
        grow = omega (arith, p.grow, q.grow);
        justified = λ f. q.justified (p.justified f);
        kept = λ e.
            let d : m ≡ marks = omega (arith, p.grow, q.grow) in
            let d' : next ≡ m = omega arith in
            (p.kept d, rw d at (q.kept d'));
      }

  pub passed_none : (Kept : ℕ → ℕ → Type 0) (marks : ℕ) → Passed P (KeptBelow Kept 0) marks marks
  passed_none Kept marks = passed_same (KeptBelow Kept 0) marks (record { each = λ i h. absurd (omega arith) })

  pub passed_next : (Kept : ℕ → ℕ → Type 0) (n marks m next : ℕ) → Passed P (KeptBelow Kept n) marks m → Passed P (Kept n) m next
      → Passed P (KeptBelow Kept (n + 1)) marks next
  passed_next Kept n marks m next p q =
      passed_map (λ k. KeptBelow Kept n k × Kept n k) (KeptBelow Kept (n + 1)) marks next
      (λ (f, k). record {
        each = λ i h. elim (dec_lt i n) [ yes l ↦ f.each i l | no l ↦ let e : i ≡ n = omega arith in rw e k ];
      })
      (passed_both (KeptBelow Kept n) (Kept n) marks m next p q)

  -- a step at each of the n first rules
  pub steps_passed : (Kept : ℕ → ℕ → Type 0) (R : ℕ → ℕ → ℕ → Type 0) (n marks next : ℕ)
      → ((i m m' : ℕ) → i < n → R i m m' → Passed P (Kept i) m m') → StepsTo R n marks next → Passed P (KeptBelow Kept n) marks next
  unfolding StepsTo
  steps_passed Kept R zero marks next each e = rw e (passed_none Kept marks)
  steps_passed Kept R (suc n) marks next each (m, path, step) =
      rw (← add-one n)
      (passed_next Kept n marks m next (steps_passed Kept R n marks m (λ i m m' h r. each i m m' (omega arith) r) path)
      (each n m next (omega arith) step))

  -- ---- one mark more, and the nonterminal of a place

  pub mark_passed : (marks x : ℕ) → (Justified P marks → P x) → Passed P (λ m. Marked m x) marks (with_mark marks x)
  mark_passed marks x p =
      record {
        stay = λ k m. rw (mark_bit marks x k, m);
        grow = mark_grows marks x;
        justified = λ f. record {
          reason = λ k m.
              ⊎_elim (f.reason k) (λ e. rw (eqb-true k x e) (p f)) (or_cases (bit marks k) _ (rw (mark_bit marks x k) at m));
        };
        kept = λ e. rw e at (mark_set marks x);
      }

  pub slot_passed : (used : Bool) (b marks : ℕ) → (used ≡ true → b < 128) → (Justified P marks → Slot P used b)
      → Passed P (λ m. Slot (Marked m) used b) marks (with_slot used b marks)
  unfolding with_slot at_slot
  slot_passed false b marks small f = passed_same (λ m. Slot (Marked m) false b) marks (slot_unused (Marked marks) b)
  slot_passed true b marks small f =
      elim (dec_lt b 64) [
        | yes l ↦ rw (lt-leb 64 b l) (passed_same (λ m. Slot (Marked m) true b) marks (λ u h. absurd (omega arith)))
        | no l ↦ rw (le-leb 64 b (omega arith), lt-ltb b 128 (small refl))
            (passed_map (λ m. Marked m (b - 64)) (λ m. Slot (Marked m) true b) marks (with_mark marks (b - 64)) (λ m u h. m)
            (mark_passed marks (b - 64) (λ j. f j refl (omega arith))))
      ]

-- ---- steps one after the other

module _ (R : ℕ → ℕ → ℕ → Type 0) (marks : ℕ) where
  pub steps_none : StepsTo R 0 marks marks
  unfolding StepsTo
  steps_none = refl

  pub steps_next : (n m next : ℕ) → StepsTo R n marks m → R n m next → StepsTo R (n + 1) marks next
  unfolding StepsTo
  steps_next n m next path step = rw add-one (m, path, step)

  -- what each step keeps, all of them keep
  pub steps_keep : (P : ℕ → Type 0) → ((i m m' : ℕ) → R i m m' → P m → P m') → (n next : ℕ) → StepsTo R n marks next → P marks → P next
  unfolding StepsTo
  steps_keep P each zero next e p = rw e p
  steps_keep P each (suc n) next (m, path, step) p = each n m next step (steps_keep P each n m path p)
