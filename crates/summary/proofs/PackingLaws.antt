-- The test of a struct, place by place, says exactly that it is a summary (specs/Packing.antt). A place in use passes by the choice's
-- first arm, another by its second; behind the arrays' ends every place is 0. A piece that the test lets through is small, since it adds
-- no bit to a small number. And a struct that holds a form packs it. Assumes nothing.
use mathlib.Core.Path.{◌≡◌, refl, sym, ◌∙◌}
use mathlib.Core.Bool.{Bool, true, false, false≢true}
use mathlib.Core.List.{List}
use mathlib.Core.Logic.{◌↔◌}
use Prim.Native.Nat.{ℕ, ◌-◌, ◌≤◌, ◌<◌}
use native.Mathlib.Decide.{dec_lt, dec_le}
use native.Mathlib.Omega.{arith}
use lib.ListN.{length, get_or, get_or-eq_default}
use borrow.Author.Tests.{lt-ltb, le-ltb, le-leb, lt-leb, ltb-true, eqb-true}
use Rattle.hedge.specs.Schema.{most_states}
use Rattle.pieces.specs.Pieces.{most_tags, most_pieces, pieces_long, zero_piece, piece_at, PieceWithin}
use Rattle.pieces.proofs.PieceLaws.{piece_past, fits_within, none_is}
use Rattle.form.specs.Held.{tag_count, form_of, last_of, Holds}
use Rattle.form.specs.declared.Summary.{Summary}
use Rattle.summary.specs.Packing.{Packs, IsSummary, every, name_fits, piece_fits}
use Rattle.summary.proofs.FitLaws.{every_in, every_out}

-- places behind the first n, and behind an array's end
zero_behind : (n m : ℕ) (xs : List ℕ) → length xs ≡ m → ((k : ℕ) → n ≤ k → k < m → get_or xs k 0 ≡ 0)
    → (k : ℕ) → n ≤ k → get_or xs k 0 ≡ 0
zero_behind n m xs e h k l =
    elim (dec_lt k m) [
      | yes p ↦ h k l p
      | no p ↦ get_or-eq_default xs 0 {n = k} (omega arith)
    ]

-- ---- the names

module _ (A n : ℕ) (names : List ℕ) where
  name_used : (k : ℕ) → k < n → (name_fits A n names k ≡ true) ↔ (get_or names k 0 < A)
  unfolding name_fits
  name_used k l = (λ t. ltb-true (get_or names k 0) A (rw (lt-ltb k n l) at t), λ h. rw (lt-ltb k n l, lt-ltb (get_or names k 0) A h))

  name_unused : (k : ℕ) → n ≤ k → (name_fits A n names k ≡ true) ↔ (get_or names k 0 ≡ 0)
  unfolding name_fits
  name_unused k l = (λ t. eqb-true (get_or names k 0) 0 (rw (le-ltb k n l) at t), λ h. rw (le-ltb k n l, h))

  pub names_pass : length names ≡ most_tags → n ≤ most_tags
      → (every most_tags (name_fits A n names) ≡ true)
      ↔ (((k : ℕ) → k < n → get_or names k 0 < A) × ((k : ℕ) → n ≤ k → get_or names k 0 ≡ 0))
  names_pass e few = (
    λ t.
        let each = every_out most_tags (name_fits A n names) t in (
          λ k l. (name_used k l).0 (each k (omega arith)),
          zero_behind n most_tags names e (λ k l h. (name_unused k l).0 (each k h)),
        ),
    λ p. every_in most_tags (name_fits A n names) (λ k h. at p k (dec_lt k n)),
  )
    where
      at : ((k : ℕ) → k < n → get_or names k 0 < A) × ((k : ℕ) → n ≤ k → get_or names k 0 ≡ 0) → (k : ℕ) → Dec (k < n)
          → name_fits A n names k ≡ true
      at (p, q) k (yes l) = (name_used k l).1 (p k l)
      at (p, q) k (no l) = (name_unused k (omega arith)).1 (q k (omega arith))

-- ---- the pieces

module _ (q n : ℕ) (few : q ≤ most_states) (values : List ℕ) where
  piece_used : (k : ℕ) → k ≤ n → (piece_fits q n values k ≡ true) ↔ PieceWithin q (piece_at values k)
  unfolding piece_fits
  piece_used k l =
      let c = fits_within q (piece_at values k) in
      (λ t. c.0 (rw (le-leb k n l) at t), λ h. rw (le-leb k n l) (c.1 h))

  piece_unused : (k : ℕ) → n < k → (piece_fits q n values k ≡ true) ↔ (piece_at values k ≡ zero_piece)
  unfolding piece_fits
  piece_unused k l =
      let c = none_is (piece_at values k) in
      (λ t. c.0 (rw (lt-leb k n l) at t), λ h. rw (lt-leb k n l) (c.1 h))

  pub pieces_pass : length values ≡ pieces_long → n ≤ most_tags
      → (every most_pieces (piece_fits q n values) ≡ true)
      ↔ (((k : ℕ) → k ≤ n → PieceWithin q (piece_at values k)) × ((k : ℕ) → n < k → piece_at values k ≡ zero_piece))
  pieces_pass e h = (
    λ t.
        let each = every_out most_pieces (piece_fits q n values) t in (
          λ k l. (piece_used k l).0 (each k (omega arith)),
          λ k l. behind each k l (dec_le k most_tags),
        ),
    λ p. every_in most_pieces (piece_fits q n values) (λ k l. at p k (dec_le k n)),
  )
    where
      behind : ((k : ℕ) → k < most_pieces → piece_fits q n values k ≡ true) → (k : ℕ) → n < k → Dec (k ≤ most_tags)
          → piece_at values k ≡ zero_piece
      behind each k l (yes m) = (piece_unused k l).0 (each k (omega arith))
      behind each k l (no m) = piece_past values k e (omega arith)

      at : ((k : ℕ) → k ≤ n → PieceWithin q (piece_at values k)) × ((k : ℕ) → n < k → piece_at values k ≡ zero_piece) → (k : ℕ) → Dec (k ≤ n)
          → piece_fits q n values k ≡ true
      at (p, z) k (yes l) = (piece_used k l).1 (p k l)
      at (p, z) k (no l) = (piece_unused k (omega arith)).1 (z k (omega arith))

-- ---- the answers of the test

never_passed : {P : Type 0} → (P → ⊥) → (false ≡ true) ↔ P
never_passed n = (λ e. absurd (false≢true e), λ p. absurd (n p))

module _ (A q : ℕ) (s : Summary) where
  pub many_ends_fail : most_tags < s.counts.ends → (false ≡ true) ↔ IsSummary A q s
  many_ends_fail h = never_passed (λ p. omega (arith, p.few))

  pub many_tags_fail : s.counts.ends ≤ most_tags → most_tags - s.counts.ends < s.counts.starts → (false ≡ true) ↔ IsSummary A q s
  many_tags_fail h l = never_passed (λ p. omega (arith, p.few))

  module _ (names-room : length s.names ≡ most_tags) (few : tag_count s.counts ≤ most_tags) where
    pub names_fail : (t : Bool) → t ≡ every most_tags (name_fits A (tag_count s.counts) s.names) → t ≡ false
        → (t ≡ true) ↔ IsSummary A q s
    names_fail t e f =
        rw f
        (never_passed
        (λ p.
        let h = (names_pass A (tag_count s.counts) s.names names-room few).1 (p.named, p.unused.names_zero) in
        false≢true (sym f ∙ e ∙ h)))

    pub summary_pass : length s.values ≡ pieces_long → q ≤ most_states
        → (t r : Bool) → t ≡ every most_tags (name_fits A (tag_count s.counts) s.names) → t ≡ true
        → r ≡ every most_pieces (piece_fits q (tag_count s.counts) s.values)
        → (r ≡ true) ↔ IsSummary A q s
    summary_pass values-room least t r et e er =
        let (named, names_zero) = (names_pass A (tag_count s.counts) s.names names-room few).0 (sym et ∙ e) in
        let pieces = pieces_pass q (tag_count s.counts) least s.values values-room few in (
          λ h.
              let (within, values_zero) = pieces.0 (sym er ∙ h) in
              record {
                few = few;
                named = named;
                within = within;
                unused = record { names_zero = names_zero; values_zero = values_zero };
              },
          λ p. er ∙ pieces.1 (p.within, p.unused.values_zero),
        )

-- ---- what is packed

-- the form that a summary holds
pub holds_packs : (s : Summary) → Holds s → Packs s (form_of s) (last_of s)
holds_packs s h = record { holds = h; form_is = refl; last_is = refl }
