-- Outermost elements (specs/Outermost.antt). Two binoids side by side obey the laws where each does, and a word's value there is its value on
-- each side: by induction on its elements. In the binoid of numbers of outermost elements a word's value is 0 exactly of the empty word, and 1
-- exactly of a single element, since each element adds one. Assumes nothing.
use mathlib.Core.Path.{◌≡◌, refl, sym, ap, ◌∙◌}
use mathlib.Core.Logic.{◌↔◌}
use mathlib.Core.List.{List, [], ◌∷◌, ◌++◌}
use Prim.Native.Nat.{ℕ, zero, suc, ◌+◌, ◌≤◌}
use native.Mathlib.Omega.{arith}
use native.Mathlib.Decide.{dec_lt}
use borrow.Author.Tests.{lt-ltb, le-ltb}
use Rattle.words.specs.Tags.{Tag, start, end}
use Rattle.words.specs.Binoid.{Binoid, Laws, Value, value_empty, value_element}
use Rattle.words.specs.Outermost.{OneElement, OutermostOf, several, at_most_several, outermost, Sides, beside}
use Rattle.words.proofs.ValueLaws.{value_balanced, value_good, balanced_value, value_single}
use Rattle.words.proofs.ReadLaws.{value_unique}

-- ---- two binoids side by side

module _ (C D : Binoid) {H : Type 0} (S : Sides H C.H D.H) where
  pub sides_same : {x y : H} → S.left x ≡ S.left y → S.right x ≡ S.right y → x ≡ y
  sides_same {x} {y} e d = sym (S.both_sides x) ∙ (λ i. S.both (e i) (d i)) ∙ S.both_sides y

  value_left : {w : List Tag} {x : H} → Value (beside C D S) w x → Value C w (S.left x)
  value_left value_empty = simp S.left_both value_empty
  value_left (value_element u v) = simp S.left_both (value_element (value_left u) (value_left v))

  value_right : {w : List Tag} {x : H} → Value (beside C D S) w x → Value D w (S.right x)
  value_right value_empty = simp S.right_both value_empty
  value_right (value_element u v) = simp S.right_both (value_element (value_right u) (value_right v))

  pub value_sides : {w : List Tag} {x : H} → Value (beside C D S) w x → Value C w (S.left x) × Value D w (S.right x)
  value_sides v = (value_left v, value_right v)

  module _ (L : Laws C) (M : Laws D) where
    abbrev pub GoodBoth : H → Type 0
    GoodBoth x = L.Good (S.left x) × M.Good (S.right x)

    pub good_both : {c : C.H} {d : D.H} → L.Good c → M.Good d → GoodBoth (S.both c d)
    good_both {c} {d} g k = (rw (S.left_both c d) g, rw (S.right_both c d) k)

    abbrev pub beside_laws : Laws (beside C D S)
    beside_laws =
        record {
          Good = GoodBoth;
          good_unit = good_both L.good_unit M.good_unit;
          good_compose = λ (g, k) (g', k'). good_both (L.good_compose g g') (M.good_compose k k');
          good_wrap = λ (g, k). good_both (L.good_wrap g) (M.good_wrap k);
          unit_left = λ (g, k). sides_same (simp S.left_both (L.unit_left g)) (simp S.right_both (M.unit_left k));
          unit_right = λ (g, k). sides_same (simp S.left_both (L.unit_right g)) (simp S.right_both (M.unit_right k));
          assoc = λ (g, k) (g', k') (g'', k'').
              sides_same (simp S.left_both (L.assoc g g' g'')) (simp S.right_both (M.assoc k k' k''));
        }

    -- a word's two values are the two sides of one
    pub value_beside : {w : List Tag} {x : H} → Value (beside C D S) w x ↔ (Value C w (S.left x) × Value D w (S.right x))
    value_beside {w} {x} = (
      value_sides,
      λ (c, d).
          let (y, v) = balanced_value (beside C D S) (value_balanced C c) in
          let (c', d') = value_sides v in
          rw (sides_same (value_unique C L c c') (value_unique D M d d')) v,
    )

-- ---- the number of outermost elements

pub few_stay : (n : ℕ) → n ≤ several → at_most_several n ≡ n
unfolding at_most_several
few_stay n h =
    elim (dec_lt n several) [
      | yes l ↦ rw (lt-ltb n several l)
      | no l ↦ rw (le-ltb n several (omega (arith, l))) (omega (arith, h, l))
    ]

pub many_limited : (n : ℕ) → several ≤ n → at_most_several n ≡ several
unfolding at_most_several
many_limited n h = rw (le-ltb n several h)

-- what is already too many may be forgotten
pub sum_left : (m n : ℕ) → at_most_several (at_most_several m + n) ≡ at_most_several (m + n)
sum_left m n =
    elim (dec_lt m several) [
      | yes l ↦ rw (few_stay m (omega (arith, l)))
      | no l ↦
          rw (many_limited m (omega (arith, l)), many_limited (several + n) (omega arith), many_limited (m + n) (omega (arith, l)))
    ]

pub sum_right : (m n : ℕ) → at_most_several (m + at_most_several n) ≡ at_most_several (m + n)
sum_right m n = ap at_most_several (omega arith) ∙ sum_left n m ∙ ap at_most_several (omega arith)

pub outermost_few : (n : ℕ) → at_most_several n ≤ several
outermost_few n =
    elim (dec_lt n several) [
      | yes l ↦ rw (few_stay n (omega (arith, l))) (omega (arith, l))
      | no l ↦ rw (many_limited n (omega (arith, l))) (omega arith)
    ]

abbrev pub outermost_laws : Laws outermost
outermost_laws =
    record {
      Good = λ n. n ≤ several;
      good_unit = omega arith;
      good_compose = λ {x} {y} g k. outermost_few (x + y);
      good_wrap = λ g. omega arith;
      unit_left = λ {x} g. few_stay (0 + x) (omega (arith, g)) ∙ omega arith;
      unit_right = λ {x} g. few_stay (x + 0) (omega (arith, g)) ∙ omega arith;
      assoc = λ {x} {y} {z} g k l. sum_left (x + y) z ∙ ap at_most_several (omega arith) ∙ sym (sum_right x (y + z));
    }

-- ---- none and one

-- behind an element there are so many more
element_more : (k : ℕ) → (at_most_several (1 + k) ≡ 0 → ⊥) × ((at_most_several (1 + k) ≡ 1) ↔ (k ≡ 0))
element_more zero = let e : at_most_several 1 ≡ 1 = few_stay 1 (omega arith) in (λ d. omega (arith, e, d), (λ d. refl, λ d. e))
element_more (suc k) =
    let e : at_most_several (1 + suc k) ≡ several = many_limited (1 + suc k) (omega arith) in
    (λ d. omega (arith, e, d), (λ d. omega (arith, e, d), λ d. omega (arith, d)))

pub outermost_none : {w : List Tag} {n : ℕ} → Value outermost w n → (n ≡ 0) ↔ (w ≡ [])
outermost_none value_empty = (λ e. refl, λ e. refl)
outermost_none (value_element {k = k} p q) = (λ e. absurd ((element_more k).0 e), λ e. cc e)

pub outermost_one : {w : List Tag} {n : ℕ} → Value outermost w n → (n ≡ 1) ↔ OneElement w
outermost_one {w} {n} v = (to v, from v)
  where
    to : {w : List Tag} {n : ℕ} → Value outermost w n → n ≡ 1 → OneElement w
    to value_empty e = absurd (omega (arith, e))
    to (value_element {a = a} {u = u} {k = k} p q) e =
        (a, u, value_balanced outermost p, ap (λ v. start a ∷ (u ++ (end a ∷ v))) ((outermost_none q).0 ((element_more k).1.0 e)))

    from : {w : List Tag} {n : ℕ} → Value outermost w n → OneElement w → n ≡ 1
    from v (a, u, b, e) =
        value_unique outermost outermost_laws (rw (← e) v) (value_single outermost outermost_laws {a = a} (balanced_value outermost b).1)

pub outermost_of : {w : List Tag} {n : ℕ} → Value outermost w n → OutermostOf w n
outermost_of v = (value_good outermost outermost_laws v, outermost_none v, outermost_one v)
