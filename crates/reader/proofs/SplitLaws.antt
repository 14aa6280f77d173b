-- A list parted in two ways: one of the two cuts comes first. By induction on the two fronts. Assumes nothing.
use mathlib.Core.Path.{◌≡◌, refl, sym, ap, ap₂, ◌∙◌}
use mathlib.Core.List.{List, [], ◌∷◌, ◌++◌, nil≢cons, head-eq_of_cons-eq, tail-eq_of_cons-eq, append-nil}
use mathlib.Core.Logic.{◌⊎◌, inl, inr}

module _ {A : Type 0} where
  -- x ends before this element, or has it
  abbrev pub Cut : List A → List A → List A → A → List A → Type 0
  Cut x y before b after =
      ((z : List A) × (before ≡ x ++ z) × (y ≡ z ++ (b ∷ after))) ⊎ ((z : List A) × (x ≡ before ++ (b ∷ z)) × (after ≡ z ++ y))

  cut_cons : (c d : A) (x y before : List A) (b : A) (after : List A) → c ≡ d → Cut x y before b after → Cut (c ∷ x) y (d ∷ before) b after
  cut_cons c d x y before b after e (inl (z, p, q)) = inl (z, ap₂ ◌∷◌ (sym e) p, q)
  cut_cons c d x y before b after e (inr (z, p, q)) = inr (z, ap₂ ◌∷◌ e p, q)

  pub cut_found : (x y before : List A) (b : A) (after : List A) → x ++ y ≡ before ++ (b ∷ after) → Cut x y before b after
  cut_found [] y before b after e = inl (before, refl, e)
  cut_found (c ∷ x) y [] b after e = inr (x, ap₂ ◌∷◌ (head-eq_of_cons-eq e) refl, sym (tail-eq_of_cons-eq e))
  cut_found (c ∷ x) y (d ∷ before) b after e =
      cut_cons c d x y before b after (head-eq_of_cons-eq e) (cut_found x y before b after (tail-eq_of_cons-eq e))

  -- two lists in a row are empty: both are
  pub append_empty : (z y : List A) → [] ≡ z ++ y → (z ≡ []) × (y ≡ [])
  append_empty [] y e = (refl, sym e)
  append_empty (c ∷ z) y e = absurd (nil≢cons e)

  -- a beginning of a list and one element more is all of it, or a beginning of the list
  pub last_split : (u : List A) (b : A) (x y : List A) → u ++ (b ∷ []) ≡ x ++ y
      → ((x ≡ u ++ (b ∷ [])) × (y ≡ [])) ⊎ ((z : List A) × (u ≡ x ++ z))
  last_split u b x y e = from (cut_found x y u b [] (sym e))
    where
      from : Cut x y u b [] → ((x ≡ u ++ (b ∷ [])) × (y ≡ [])) ⊎ ((z : List A) × (u ≡ x ++ z))
      from (inl (z, p, q)) = inr (z, p)
      from (inr (z, p, q)) = let (f, g) = append_empty z y q in inl (p ∙ ap (λ r. u ++ (b ∷ r)) f, g)

  -- two elements of a list are at the same place, or the list up to one is a beginning of the list before the other
  abbrev pub Places : List A → A → List A → List A → A → List A → Type 0
  Places before b after before' b' after' =
      ((before ≡ before') × (b ≡ b') × (after ≡ after'))
      ⊎ (((z : List A) × (before' ≡ before ++ (b ∷ z))) ⊎ ((z : List A) × (before ≡ before' ++ (b' ∷ z))))

  pub two_splits : (before : List A) (b : A) (after before' : List A) (b' : A) (after' : List A)
      → before ++ (b ∷ after) ≡ before' ++ (b' ∷ after') → Places before b after before' b' after'
  two_splits before b after before' b' after' e = from (cut_found before (b ∷ after) before' b' after' e)
    where
      within : (z : List A) → before' ≡ before ++ z → b ∷ after ≡ z ++ (b' ∷ after') → Places before b after before' b' after'
      within [] p q = inl (sym (p ∙ append-nil before), head-eq_of_cons-eq q, tail-eq_of_cons-eq q)
      within (c ∷ z) p q = inr (inl (z, p ∙ ap (λ a. before ++ (a ∷ z)) (sym (head-eq_of_cons-eq q))))

      from : Cut before (b ∷ after) before' b' after' → Places before b after before' b' after'
      from (inl (z, p, q)) = within z p q
      from (inr (z, p, q)) = inr (inr (z, p))
