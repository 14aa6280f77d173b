-- The ascent of entries: two lists of bytes compared from a place on, by the bytes there, and an entry that is not its body's first.
-- Each law opens the definition once and rewrites by what the tests of the two bytes say. Assumes nothing.
use mathlib.Core.Path.{◌≡◌, refl, sym}
use mathlib.Core.Bool.{true, false, or-false}
use mathlib.Core.List.{List, [], ◌∷◌}
use Prim.Native.Nat.{ℕ, ◌+◌, ◌-◌, ◌≤◌, ◌<◌}
use native.Mathlib.Omega.{arith}
use borrow.Author.Tests.{le-ltb, le-leb, lt-leb, eq-eqb, ne_eqb}
use lib.Dec.{ltb}
use lib.ListN.{length, take, drop}
use Rattle.entries.specs.Entries.{precedes, ascends}

-- the comparison: a list at its end, and the next two bytes

pub precedes_past_left : (a b : List ℕ) → length a ≡ 0 → false ≡ precedes a b
unfolding precedes
precedes_past_left [] b h = refl
precedes_past_left (x ∷ a) b h = absurd (omega arith)

pub precedes_past_right : (a b : List ℕ) → length b ≡ 0 → false ≡ precedes a b
unfolding precedes
precedes_past_right [] [] h = refl
precedes_past_right (x ∷ a) [] h = refl
precedes_past_right a (y ∷ b) h = absurd (omega arith)

module _ {a b a' b' : List ℕ} {x y : ℕ} (here : (a ≡ x ∷ a') × (b ≡ y ∷ b')) where
  pub precedes_same : x ≡ y → precedes a b ≡ precedes a' b'
  unfolding precedes
  precedes_same e = rw (here.0, here.1, le-ltb x y (omega arith), eq-eqb x y e)

  pub precedes_differs : (x ≡ y → ⊥) → ltb x y ≡ precedes a b
  unfolding precedes
  precedes_differs d = rw (here.0, here.1, ne_eqb x y d) (sym (or-false (ltb x y)))

-- the entry is its body's first, or a later one

pub ascends_first : (wide : ℕ) (f : List ℕ) (first at : ℕ) → at ≤ first → true ≡ ascends wide f first at
unfolding ascends
ascends_first wide f first at h = rw (le-leb _ _ h)

pub ascends_later : (wide : ℕ) (f : List ℕ) (first at : ℕ) → wide ≤ at → first < at
    → precedes (take (at - (at - wide)) (drop (at - wide) f)) (take (at + wide - at) (drop at f)) ≡ ascends wide f first at
unfolding ascends
ascends_later wide f first at w h =
    let before : at - (at - wide) ≡ wide = omega arith in
    let behind : at + wide - at ≡ wide = omega arith in
    rw (lt-leb _ _ h, before, behind)
