-- Packing and unpacking (specs/Packed.antt). What was packed is read back: the first entry by its digits to the base 256, a name as a byte
-- of its entry, a piece as its relation's entry and two bits of the last; together that is the whole summary. Assumes nothing.
use mathlib.Core.Path.{◌≡◌, refl, sym, ap, ap₂, ◌∙◌}
use mathlib.Core.List.{List, [], ◌∷◌, ◌++◌}
use Prim.Native.Nat.{ℕ, suc, ◌+◌, ◌-◌, ◌*◌, ◌/◌, ◌%◌, ◌^◌, ◌≤◌, ◌<◌}
use native.Mathlib.Decide.{dec_lt}
use native.Mathlib.Nat.{div-eq_of_lt}
use native.Mathlib.Omega.{arith}
use lib.ListN.{length, length-append, get_or, get_or-append}
use lib.Seq.{ext_get_or}
use Rattle.pieces.specs.Pieces.{most_tags, most_pieces, pieces_long, piece, piece_at, pieces_from, AllCounted}
use Rattle.pieces.proofs.PieceLaws.{pieces_ext, pieces_from_length, pieces_from_at}
use Rattle.form.specs.Held.{form_of, last_of, Holds}
use Rattle.form.specs.declared.Summary.{Summary}
use Rattle.worktable.specs.Packed.{row_head, counts_at, row_width, numbers_from, relations_in, outermost_in, packed}
use Rattle.worktable.specs.Packed.{nonterminal_in, ends_in, starts_in, name_in, piece_in, above_in, summary_in, RowOf}
use Rattle.worktable.proofs.DigitLaws.{numbers_length, numbers_at, digit_at, digits_small, relation_at}

-- the entry behind a list
get_d_at : (l : List ℕ) (v n : ℕ) → length l ≡ n → get_or (l ++ (v ∷ [])) n 0 ≡ v
get_d_at [] v n e = rw (← e)
get_d_at (x ∷ l) v n e = rw (← e) (get_d_at l v (length l) refl)

-- ---- a packed row

module _ (x : ℕ) (s : Summary) where
  packed_relations : (k : ℕ) → k < most_pieces → get_or (packed x s) (row_head + k) 0 ≡ (piece_at s.values k).relation
  unfolding packed
  packed_relations k h =
      let z : row_head + k ≡ suc (suc (suc k)) = omega arith in
      let long = numbers_length (relation_at s.values) 0 most_pieces in
      rw z
      (get_or-append (relations_in s.values) (outermost_in s.values ∷ []) 0 k (omega (arith, long))
      ∙ numbers_at (relation_at s.values) 0 most_pieces k h ∙ ap (relation_at s.values) (omega arith))

  packed_last : get_or (packed x s) counts_at 0 ≡ outermost_in s.values
  unfolding packed
  packed_last = get_d_at (relations_in s.values) (outermost_in s.values) most_pieces (numbers_length (relation_at s.values) 0 most_pieces)

  pub packed_length : length (packed x s) ≡ row_width
  unfolding packed
  packed_length = let long = numbers_length (relation_at s.values) 0 most_pieces in rw length-append (omega (arith, long))

  pub packed_nonterminal : x < 256 → nonterminal_in (packed x s) ≡ x
  unfolding packed
  packed_nonterminal h = omega arith

  module _ (small : x < 256) (few : s.counts.ends ≤ most_tags) where
    packed_ends : ends_in (packed x s) ≡ s.counts.ends
    unfolding packed
    packed_ends = omega arith

    packed_starts : starts_in (packed x s) ≡ s.counts.starts
    unfolding packed
    packed_starts = omega arith

  module _ (bytes : (k : ℕ) → get_or s.names k 0 < 256) where
    packed_name : (k : ℕ) → k < most_tags → name_in (packed x s) k ≡ get_or s.names k 0
    unfolding packed name_in
    packed_name k h = at (dec_lt k 8)
      where
        at : Dec (k < 8) → get_or (packed x s) (1 + k / 8) 0 / 2 ^ (k % 8 * 8) % 256 ≡ get_or s.names k 0
        at (yes l) =
            let p : 1 + k / 8 ≡ 1 = omega arith in
            let q : k % 8 ≡ k = omega arith in
            rw (p, q) (digit_at 8 (λ i. get_or s.names i 0) bytes 0 k 8 l ∙ ap (λ (i : ℕ). get_or s.names i 0) (omega arith))
        at (no l) =
            let p : 1 + k / 8 ≡ 2 = omega arith in
            let q : k % 8 ≡ k - 8 = omega arith in
            rw (p, q) (digit_at 8 (λ i. get_or s.names i 0) bytes 8 (k - 8) 8 (omega arith) ∙ ap (λ (i : ℕ). get_or s.names i 0) (omega arith))

    packed_names : length s.names ≡ most_tags → numbers_from (name_in (packed x s)) 0 most_tags ≡ s.names
    packed_names l =
        let long = numbers_length (name_in (packed x s)) 0 most_tags in
        ext_get_or 0 (numbers_from (name_in (packed x s)) 0 most_tags) s.names (long ∙ sym l)
        (λ i h.
        let z : 0 + i ≡ i = omega arith in
        numbers_at (name_in (packed x s)) 0 most_tags i (omega (arith, long)) ∙ ap (name_in (packed x s)) z ∙ packed_name i (omega (arith, long)))

  pub packed_above : AllCounted s.values → above_in (packed x s) ≡ 0
  packed_above all =
      let small : (i : ℕ) → (piece_at s.values i).outermost < 4 = λ i. omega (arith, all i) in
      rw packed_last (div-eq_of_lt (digits_small 2 (λ i. (piece_at s.values i).outermost) small 0 most_pieces))

  packed_piece : AllCounted s.values → (k : ℕ) → k < most_pieces → piece_in (packed x s) k ≡ piece_at s.values k
  unfolding piece_in
  packed_piece all k h =
      let small : (i : ℕ) → (piece_at s.values i).outermost < 4 = λ i. omega (arith, all i) in
      let z : 0 + k ≡ k = omega arith in
      ap₂ piece (packed_relations k h)
      (rw packed_last
      (digit_at 2 (λ i. (piece_at s.values i).outermost) small 0 k most_pieces h ∙ ap (λ (i : ℕ). (piece_at s.values i).outermost) z))

  packed_values : AllCounted s.values → length s.values ≡ pieces_long → pieces_from (piece_in (packed x s)) 0 most_pieces ≡ s.values
  packed_values all l =
      pieces_ext (pieces_from (piece_in (packed x s)) 0 most_pieces) s.values (pieces_from_length (piece_in (packed x s)) 0 most_pieces) l
      (λ k h.
      let z : 0 + k ≡ k = omega arith in
      pieces_from_at (piece_in (packed x s)) 0 most_pieces k (omega arith) ∙ ap (piece_in (packed x s)) z ∙ packed_piece all k (omega arith))

  module _ (bytes : (k : ℕ) → get_or s.names k 0 < 256) where
    -- the summary is read back, and is what the row packs
    module _ (small : x < 256) (holds : Holds s) where
      pub packed_summary : summary_in (packed x s) ≡ s
      packed_summary =
          let few : s.counts.ends ≤ most_tags = omega (arith, holds.room) in
          λ i. record {
            counts = record { ends = packed_ends small few i; starts = packed_starts small few i };
            names = packed_names bytes holds.names_long i;
            values = packed_values holds.counted holds.values_long i;
          }

      pub packed_row : RowOf (packed x s) x (form_of s) (last_of s)
      packed_row =
          record {
            summary = s;
            bytes = bytes;
            small = small;
            holds = holds;
            row_is = refl;
            form_is = refl;
            last_is = refl;
          }
