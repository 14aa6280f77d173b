-- Lists in which no element stands twice (specs/Events.antt). Where each element of a distinct list stands in another, the other is at
-- least as long: each takes a place of its own. In a family that only grows, where each of n steps brings something new, n distinct
-- things stand at step n. By induction. Assumes nothing.
use mathlib.Core.Path.{◌≡◌, refl, sym, ap, ◌∙◌}
use mathlib.Core.List.Memᴰ
use mathlib.Core.List.{List, [], ◌∷◌, Memᴰ}
use mathlib.Core.Logic.{◌⊎◌, inl, inr, ⊎_elim}
use Prim.Native.Nat.{ℕ, zero, suc, ◌≤◌, ◌<◌, zero-le}
use native.Mathlib.Omega.{arith}
use lib.ListN.{length}
use Rattle.trees.specs.Events.{Distinct, distinct_none, distinct_more}

module _ {A : Type 0} where
  -- the list without the place of one element
  without_one : {x : A} {l : List A} → Memᴰ x l
      → (m : List A) × (length l ≡ suc (length m)) × ((y : A) → Memᴰ y l → (y ≡ x) ⊎ Memᴰ y m)
  without_one (Memᴰ.head {xs = xs} e) = (xs, refl, λ y d. ⊎_elim (λ f. inl (f ∙ sym e)) inr (Memᴰ.cases_cons d))
  without_one {x} (Memᴰ.tail {x = z} d) =
      let (m, e, f) = without_one d in
      let further : (y : A) → (y ≡ x) ⊎ Memᴰ y m → (y ≡ x) ⊎ Memᴰ y (z ∷ m) = λ y s. ⊎_elim inl (λ k. inr (Memᴰ.tail k)) s in
      (z ∷ m, ap suc e, λ y h. ⊎_elim (λ g. inr (Memᴰ.head g)) (λ k. further y (f y k)) (Memᴰ.cases_cons h))

  -- the rest of a distinct list stands in what is left of the other
  rest_left : {x : A} {l m : List A} → (Memᴰ x l → ⊥) → ((y : A) → Memᴰ y l → (y ≡ x) ⊎ Memᴰ y m)
      → (y : A) → Memᴰ y l → Memᴰ y m
  rest_left n f y d = ⊎_elim (λ e. absurd (n (Memᴰ.cast (sym e) d))) (λ k. k) (f y d)

  pub distinct_length : {l m : List A} → Distinct l → ((x : A) → Memᴰ x l → Memᴰ x m) → length l ≤ length m
  distinct_length distinct_none f = zero-le
  distinct_length (distinct_more {x = x} {l = l} n d) f =
      let (k, e, g) = without_one (f x (Memᴰ.head refl)) in
      let h : length l ≤ length k = distinct_length d (rest_left n (λ y p. g y (f y (Memᴰ.tail p)))) in
      omega (arith, e, h)

-- a growing family

module _ {A : Type 0} (P : ℕ → A → Type 0) (grows : (r : ℕ) (x : A) → P r x → P (suc r) x) where
  -- n distinct things at step n
  pub record Many (n : ℕ) : Type 0 where
    pub members : List A
    pub distinct : Distinct members
    pub all : (x : A) → Memᴰ x members → P n x
    pub count : length members ≡ n

  pub many : (n : ℕ) → ((r : ℕ) → r < n → (x : A) × P (suc r) x × (P r x → ⊥)) → Many n
  many zero f = record { members = []; distinct = distinct_none; all = λ x m. absurd (Memᴰ.not-nil m); count = refl }
  many (suc n) f = with_one_more (many n (λ r h. f r (omega (arith, h)))) (f n (omega arith))
    where
      with_one_more : Many n → ((x : A) × P (suc n) x × (P n x → ⊥)) → Many (suc n)
      with_one_more m (x, p, q) = record {
        members = x ∷ m.members;
        distinct = distinct_more (λ e. q (m.all x e)) m.distinct;
        all = λ y e. ⊎_elim (λ (s : y ≡ x). rw s p) (λ d. grows n y (m.all y d)) (Memᴰ.cases_cons e);
        count = ap suc m.count;
      }
