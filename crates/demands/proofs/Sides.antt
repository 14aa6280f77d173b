-- The two sides of an equivalence: where both hold, and where neither does, it holds; and a side may be said in other words. Assumes nothing.
use mathlib.Core.Logic.{◌↔◌}

pub both : {A B : Type 0} → A → B → A ↔ B
both a b = (λ x. b, λ y. a)

pub neither : {A B : Type 0} → (A → ⊥) → (B → ⊥) → A ↔ B
neither a b = (λ x. absurd (a x), λ y. absurd (b y))

pub in_words : {A B C : Type 0} → A ↔ B → (B → C) → (C → B) → A ↔ C
in_words h to from = (λ a. to (h.0 a), λ c. h.1 (from c))
