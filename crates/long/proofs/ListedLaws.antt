-- The first n values of a function, as a list: how many there are, which, and that none stands twice where the function is one-to-one
-- below n. By induction on n. Assumes nothing.
use mathlib.Core.Path.{◌≡◌, refl, sym, ◌∙◌}
use mathlib.Core.Logic.{⊎_elim}
use mathlib.Core.List.{List, [], ◌∷◌, ◌++◌}
use mathlib.Core.List.Memᴰ
use mathlib.Core.List.{Memᴰ}
use Prim.Native.Nat.{ℕ, zero, suc, ◌<◌}
use native.Mathlib.Decide.{dec_lt}
use native.Mathlib.Omega.{arith}
use lib.ListN.{length, length-append}
use Rattle.trees.specs.Events.{Distinct, distinct_none, distinct_more}

-- two lists without a common element
pub distinct_append : {A : Type 0} {a b : List A} → Distinct a → Distinct b → ((x : A) → Memᴰ x a → Memᴰ x b → ⊥)
    → Distinct (a ++ b)
distinct_append distinct_none d apart = d
distinct_append {a = a} (distinct_more {x = x} {l = l} new c) d apart =
    distinct_more (λ m. ⊎_elim new (apart x (Memᴰ.head refl)) (Memᴰ.append_cases l m))
    (distinct_append c d (λ y m. apart y (Memᴰ.tail m)))

module _ {A : Type 0} (f : ℕ → A) where
  unfoldable pub listed : ℕ → List A
  listed zero = []
  listed (suc n) = listed n ++ (f n ∷ [])

  pub listed_length : (n : ℕ) → length (listed n) ≡ n
  unfolding listed
  listed_length zero = refl
  listed_length (suc n) = rw (length-append (listed n) (f n ∷ []), listed_length n) (omega arith)

  pub listed_in : (n i : ℕ) → i < n → Memᴰ (f i) (listed n)
  unfolding listed
  listed_in zero i h = absurd (omega arith)
  listed_in (suc n) i h =
      elim (dec_lt i n) [
        | yes k ↦ Memᴰ.append_left (f n ∷ []) (listed_in n i k)
        | no k ↦ let e : i ≡ n = omega arith in rw e (Memᴰ.append_right (listed n) (Memᴰ.head refl))
      ]

  pub listed_out : (n : ℕ) (x : A) → Memᴰ x (listed n) → (i : ℕ) × (i < n) × (x ≡ f i)
  unfolding listed
  listed_out zero x m = absurd (Memᴰ.not-nil m)
  listed_out (suc n) x m =
      ⊎_elim (λ k. let (i, h, e) = listed_out n x k in (i, omega arith, e))
      (λ k. ⊎_elim (λ e. (n, omega arith, e)) (λ none. absurd (Memᴰ.not-nil none)) (Memᴰ.cases_cons k))
      (Memᴰ.append_cases (listed n) m)

  pub listed_distinct : (n : ℕ) → ((i j : ℕ) → i < n → j < n → f i ≡ f j → i ≡ j) → Distinct (listed n)
  unfolding listed
  listed_distinct zero one = distinct_none
  listed_distinct (suc n) one =
      let last : Distinct (f n ∷ []) = distinct_more (λ m. Memᴰ.not-nil m) distinct_none in
      let apart : (x : A) → Memᴰ x (listed n) → Memᴰ x (f n ∷ []) → ⊥ = λ x m k.
      let (i, h, e) = listed_out n x m in
      ⊎_elim (λ (d : x ≡ f n). omega (arith, one i n (omega arith) (omega arith) (sym e ∙ d))) (λ none. Memᴰ.not-nil none)
      (Memᴰ.cases_cons k) in
      distinct_append (listed_distinct n (λ i j h k. one i j (omega arith) (omega arith))) last apart
