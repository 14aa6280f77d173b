-- A form has one way to stand in the arrays where unused places are 0 (specs/Held.antt): the counts of its ends and starts are those of
-- the form, the places in use are read off its tags, and the others are 0. Assumes nothing.
use mathlib.Core.Path.{◌≡◌, refl, sym, ap, ◌∙◌}
use mathlib.Core.Bool.{Bool, true, false}
use mathlib.Core.List.{List}
use Prim.Native.Nat.{ℕ, zero, suc, ◌≤◌, ◌<◌}
use native.Mathlib.Decide.{ℕ_discrete, dec_lt}
use native.Mathlib.Omega.{arith}
use lib.Dec.{ltb}
use lib.ListN.{get_or}
use lib.Seq.{ext_get_or}
use Rattle.words.specs.Tags.{Tag, start, end}
use Rattle.words.specs.Reduced.{starts, ends}
use Rattle.pieces.specs.Pieces.{zero_piece, piece_at}
use Rattle.pieces.proofs.PieceLaws.{pieces_ext}
use Rattle.form.specs.Held.{tag_of, tag_at, stack_of, tag_count, form_of, last_of, Holds}
use Rattle.form.specs.Steps.{held}
use Rattle.form.specs.declared.Summary.{Summary}
use Rattle.form.proofs.HeldLaws.{starts_held, ends_held}

-- a place that is in use

abbrev name : Tag → ℕ
name (start a) = a
name (end a) = a

name_of : (closes : Bool) (a : ℕ) → name (tag_of closes a) ≡ a
name_of true a = refl
name_of false a = refl

name_held : (e : ℕ) (names : List ℕ) (k : ℕ) → name (tag_at e names k) ≡ get_or names k 0
unfolding tag_at
name_held e names k = name_of (ltb k e) (get_or names k 0)

pub places_same : (e n : ℕ) (names values names' values' : List ℕ) → stack_of e names values n ≡ stack_of e names' values' n
    → (k : ℕ) → k < n → (get_or names k 0 ≡ get_or names' k 0) × (piece_at values k ≡ piece_at values' k)
unfolding stack_of
places_same e zero names values names' values' p k l = absurd (omega arith)
places_same e (suc n) names values names' values' p k l =
    at (ℕ_discrete k n) (λ m. places_same e n names values names' values' (cc p) k m) (cc p) (cc p)
  where
    at : Dec (k ≡ n) → (k < n → (get_or names k 0 ≡ get_or names' k 0) × (piece_at values k ≡ piece_at values' k))
        → tag_at e names n ≡ tag_at e names' n → piece_at values n ≡ piece_at values' n
        → (get_or names k 0 ≡ get_or names' k 0) × (piece_at values k ≡ piece_at values' k)
    at (yes q) below t v = rw q (sym (name_held e names n) ∙ ap name t ∙ name_held e names' n, v)
    at (no q) below t v = below (omega arith)

-- what agrees below n and is z from there on agrees
agree : {A : Type 0} (n : ℕ) (f g : ℕ → A) (z : A) → ((k : ℕ) → k < n → f k ≡ g k) → ((k : ℕ) → n ≤ k → f k ≡ z)
    → ((k : ℕ) → n ≤ k → g k ≡ z) → (k : ℕ) → f k ≡ g k
agree {A = A} n f g z same left right k = at (dec_lt k n)
  where
    at : Dec (k < n) → f k ≡ g k
    at (yes l) = same k l
    at (no l) = left k (omega arith) ∙ sym (right k (omega arith))

module _ (s s' : Summary) (h : Holds s) (h' : Holds s') where
  -- where the counts are the same
  module _ (c : s.counts ≡ s'.counts) (p : form_of s ≡ stack_of s.counts.ends s'.names s'.values (tag_count s.counts)) where
    used : (k : ℕ) → k < tag_count s.counts
        → (get_or s.names k 0 ≡ get_or s'.names k 0) × (piece_at s.values k ≡ piece_at s'.values k)
    used = places_same s.counts.ends (tag_count s.counts) s.names s.values s'.names s'.values p

    names_same : s.names ≡ s'.names
    names_same =
        ext_get_or 0 s.names s'.names (h.names_long ∙ sym h'.names_long)
        (λ k l. agree (tag_count s.counts) (λ k. get_or s.names k 0) (λ k. get_or s'.names k 0) 0 (λ k l. (used k l).0)
        h.unused.names_zero (λ k l. h'.unused.names_zero k (rw (← c) l)) k)

    values_same : last_of s ≡ piece_at s'.values (tag_count s.counts) → s.values ≡ s'.values
    values_same q =
        pieces_ext s.values s'.values h.values_long h'.values_long
        (λ k l. agree (suc (tag_count s.counts)) (piece_at s.values) (piece_at s'.values) zero_piece
        (λ k l. at k l (ℕ_discrete k (tag_count s.counts))) h.unused.values_zero
        (λ k l. h'.unused.values_zero k (rw (← c) l)) k)
      where
        at : (k : ℕ) → k < suc (tag_count s.counts) → Dec (k ≡ tag_count s.counts) → piece_at s.values k ≡ piece_at s'.values k
        at k l (yes e) = rw e q
        at k l (no e) = (used k (omega arith)).1

  -- the form decides the counts and the arrays
  pub pack_unique : form_of s ≡ form_of s' → last_of s ≡ last_of s' → s ≡ s'
  pack_unique p q =
      let e = sym (ends_held s.counts.ends s.counts.starts s.names s.values) ∙ ap ends p
      ∙ ends_held s'.counts.ends s'.counts.starts s'.names s'.values in
      let t = sym (starts_held s.counts.ends s.counts.starts s.names s.values) ∙ ap starts p
      ∙ starts_held s'.counts.ends s'.counts.starts s'.names s'.values in
      let c : s.counts ≡ s'.counts = λ i. record { ends = e i; starts = t i } in
      let f = rw (← c) at p in
      λ i. record { counts = c i; names = names_same c f i; values = values_same c f (rw (← c) at q) i }

  pub holds_unique : held s ≡ held s' → s ≡ s'
  holds_unique p = pack_unique (cc p) (cc p)
