-- The summary of a reduced form as a computation: each tag is put behind the arrays' places in use, as the code does. It packs the form,
-- where ends stand before starts and there are at most 16 tags: by induction along the tags, each step one law of the arrays
-- (form/proofs/HeldLaws.antt, form/proofs/TagLaws.antt). Assumes nothing.
use mathlib.Core.Path.{◌≡◌, refl, sym, ap, ap₂, ◌∙◌}
use Prim.Native.Nat.{ℕ, suc, ◌+◌, ◌≤◌, ◌<◌}
use native.Mathlib.Omega.{arith}
use lib.ListN.{set, replicate}
use Rattle.words.specs.Tags.{Tag, start, end}
use Rattle.words.specs.Reduced.{Stack, bottom, push, OnlyEnds, EndsFirst, GoodStack, tags}
use Rattle.words.proofs.ReducedLaws.{ends_first_below}
use Rattle.pieces.specs.declared.Piece.{Piece}
use Rattle.pieces.specs.Pieces.{most_tags, pieces_long, put_piece, Counted, PieceWithin}
use Rattle.pieces.proofs.PieceLaws.{piece_same}
use Rattle.form.specs.declared.Counts.{Counts}
use Rattle.form.specs.declared.Summary.{Summary}
use Rattle.form.specs.Held.{stack_of, tag_count, summary_of, form_of, last_of}
use Rattle.form.proofs.HeldLaws.{stack_put_start, stack_put_end, tags_held}
use Rattle.form.proofs.TagLaws.{holds_none, holds_put}
use Rattle.summary.specs.Packing.{Packs}

abbrev counted : ℕ → ℕ → Counts
counted e s = record { ends = e; starts = s }

-- a name behind the tags, a piece behind it, and the new counts
unfoldable pub put : Counts → ℕ → Piece → Summary → Summary
put d a c p = summary_of d (set p.names (tag_count p.counts) a) (put_piece p.values (tag_count d) c)

unfoldable pub pack_of : Stack Piece → Piece → Summary
pack_of bottom c = summary_of (counted 0 0) (replicate most_tags 0) (put_piece (replicate pieces_long 0) 0 c)
pack_of (push t h (start a)) c = let p = pack_of t h in put (counted p.counts.ends (suc p.counts.starts)) a c p
pack_of (push t h (end a)) c = let p = pack_of t h in put (counted (suc p.counts.ends) 0) a c p

module _ (p : Summary) {t : Stack Piece} {h : Piece} (packs : Packs p t h) where
  packed_count : tag_count p.counts ≡ tags t
  packed_count =
      sym (tags_held p.counts.ends (tag_count p.counts) p.names p.values) ∙ ap tags packs.form_is

  module _ (room : tags t < most_tags) (a : ℕ) (c : Piece) (few : Counted c) where
    put_packs : (d : Counts) (tag : Tag) → tag_count d ≡ suc (tag_count p.counts)
        → form_of (put d a c p) ≡ push (form_of p) (last_of p) tag
        → Packs (put d a c p) (push t h tag) c
    unfolding put
    put_packs d tag more is =
        let n = packed_count in
        record {
          holds = holds_put p d (tag_count d) a c refl more (omega arith) packs.holds few;
          form_is = is ∙ ap₂ (λ t h. push t h tag) packs.form_is packs.last_is;
          last_is = piece_same p.values (tag_count d) c packs.holds.values_long (omega arith);
        }

    start_packs : Packs (put (counted p.counts.ends (suc p.counts.starts)) a c p) (push t h (start a)) c
    unfolding put
    start_packs =
        let n = packed_count in
        let long = packs.holds.names_long in
        let e = p.counts.ends in
        let s = suc p.counts.starts in
        put_packs (counted e s) (start a) (omega arith)
        (stack_put_start e (tag_count p.counts) (e + s) a c p.names p.values (omega arith) (omega arith) (omega arith))

    end_packs : p.counts.starts ≡ 0 → Packs (put (counted (suc p.counts.ends) 0) a c p) (push t h (end a)) c
    unfolding put
    end_packs none =
        let n = packed_count in
        let long = packs.holds.names_long in
        let e = p.counts.ends in
        let same : suc e + 0 ≡ suc e = omega arith in
        put_packs (counted (suc e) 0) (end a) (omega arith)
        (rw same
        (stack_put_end e (tag_count p.counts) (suc e) a c p.names p.values (omega arith) (omega arith) (omega arith)))

only_ends_startless : (t : Stack Piece) (c : Piece) → OnlyEnds t → (pack_of t c).counts.starts ≡ 0
unfolding pack_of put
only_ends_startless bottom c e = refl
only_ends_startless (push t h (start a)) c e = absurd e
only_ends_startless (push t h (end a)) c e = refl

-- where each piece is within q states, and so has 0, 1 or 2 outermost elements
pub pack_packs : (q : ℕ) (t : Stack Piece) (c : Piece) → EndsFirst t → tags t ≤ most_tags → GoodStack (PieceWithin q) t → PieceWithin q c
    → Packs (pack_of t c) t c
unfolding pack_of tags stack_of
pack_packs q bottom c f l g k =
    record { holds = holds_none c k.1; form_is = refl; last_is = piece_same (replicate pieces_long 0) 0 c refl (omega arith) }
pack_packs q (push t h (start a)) c f l (g, m) k =
    start_packs (pack_of t h) (pack_packs q t h f (omega arith) g m) (omega arith) a c k.1
pack_packs q (push t h (end a)) c f l (g, m) k =
    end_packs (pack_of t h) (pack_packs q t h (ends_first_below t h (end a) f) (omega arith) g m) (omega arith) a c k.1
    (only_ends_startless t h f)
