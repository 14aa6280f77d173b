-- How many outermost elements a balanced word has, and two binoids side by side, so that one value tells two things of a word. Rules, sections
-- 3 and 5: a page has exactly one, and each relation carries the count of its string's: 0, 1, or 2 for more.
use Rattle.std.specs.Prelude.{◌≡◌, ◌↔◌, cond, List, [], ◌∷◌, ◌++◌, ℕ, ◌+◌, ◌≤◌, ltb}
use Rattle.words.specs.Tags.{Tag, start, end}
use Rattle.words.specs.Balance.{Balanced}
use Rattle.words.specs.Binoid.{Binoid}

-- exactly one: an element with a balanced word in it, and nothing beside
abbrev pub OneElement : List Tag → Type 0
OneElement w = (a : ℕ) × (u : List Tag) × Balanced u × (w ≡ start a ∷ (u ++ (end a ∷ [])))

-- 2 stands for 2 and more
abbrev pub several : ℕ
several = 2

unfoldable pub at_most_several : ℕ → ℕ
at_most_several n = cond (ltb n several) n several

-- the count of a balanced word's outermost elements: 0 of the empty word, 1 of a single element, and of any other word 2
abbrev pub OutermostOf : List Tag → ℕ → Type 0
OutermostOf w n = (n ≤ several) × ((n ≡ 0) ↔ (w ≡ [])) × ((n ≡ 1) ↔ OneElement w)

-- the counts as a binoid: none, those of two words added up, and one of whatever is inside
abbrev pub outermost : Binoid
outermost = record { H = ℕ; unit = 0; compose = λ m n. at_most_several (m + n); wrap = λ a n. 1 }

-- H has a value of A and one of B beside it, and nothing more
pub record Sides (H A B : Type 0) : Type 0 where
  pub left : H → A
  pub right : H → B
  pub both : A → B → H
  pub left_both : (a : A) (b : B) → left (both a b) ≡ a
  pub right_both : (a : A) (b : B) → right (both a b) ≡ b
  pub both_sides : (h : H) → both (left h) (right h) ≡ h

-- two binoids side by side: each operation on each side
abbrev pub beside : (C D : Binoid) {H : Type 0} → Sides H C.H D.H → Binoid
beside C D {H} S =
    record {
      H = H;
      unit = S.both C.unit D.unit;
      compose = λ x y. S.both (C.compose (S.left x) (S.left y)) (D.compose (S.right x) (S.right y));
      wrap = λ a x. S.both (C.wrap a (S.left x)) (D.wrap a (S.right x));
    }
