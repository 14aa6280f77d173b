-- What is noted of a form (specs/Turns.antt), in the words in which `invalid_form` and `note_form` have it: only a form of the start can be
-- an invalid page, and its ending says so; the row of a form is not looked for where one found no room before, stands among the others, finds
-- no room, or goes behind them. Assumes nothing.
use mathlib.Core.Path.{◌≡◌, sym, ap, subst, ◌∙◌}
use mathlib.Core.Bool.{Bool, true, false, ◌||◌}
use mathlib.Core.List.{List, [], ◌∷◌, ◌++◌}
use Prim.Native.Nat.{ℕ, ◌+◌, ◌≤◌, ◌<◌}
use lib.Dec.{eqb}
use lib.ListN.{length}
use borrow.Author.Tests.{eq-eqb, ne_eqb}
use Rattle.std.specs.Prelude.{Result}
use Rattle.std.specs.Result.{is_err}
use Rattle.words.specs.Reduced.{Stack, tags}
use Rattle.pieces.specs.declared.Piece.{Piece}
use Rattle.pieces.specs.Pieces.{piece_at}
use Rattle.form.specs.Held.{tag_count}
use Rattle.form.specs.Endings.{ending_of}
use Rattle.form.specs.declared.Counts.{Counts}
use Rattle.form.specs.declared.Flaw.{Flaw}
use Rattle.trees.specs.Events.{Pair}
use Rattle.rows.specs.Tables.{rows_of, table_of, among}
use Rattle.worktable.specs.Packed.{row_width, most_images, PairRow}
use Rattle.worktable.proofs.RowLaws.{row_length}
use Rattle.pairs.specs.Turns.{invalid_form, PairNoted, was_crowded, stands, finds_no_room, goes_behind}
use Rattle.pairs.specs.declared.Tally.{Tally}

-- ---- an invalid page

module _ (lore : List ℕ) (x : ℕ) (c : Counts) (values : List ℕ) where
  pub start_invalid : (last : Piece) (e : Result Unit Flaw) (b : Bool) → x ≡ 0 → last ≡ piece_at values (tag_count c)
      → ((form : Stack Piece) → tags form ≡ tag_count c → e ≡ ending_of lore form last) → b ≡ is_err e
      → (form : Stack Piece) → tags form ≡ tag_count c
      → b ≡ invalid_form lore (record { of = x; form = form; last = piece_at values (tag_count c) })
  unfolding invalid_form
  start_invalid last e b z last_is told is form count = rw (eq-eqb x 0 z, ← last_is, is, told form count)

  pub other_valid : (x ≡ 0 → ⊥) → (form : Stack Piece) → tags form ≡ tag_count c
      → eqb x 0 ≡ invalid_form lore (record { of = x; form = form; last = piece_at values (tag_count c) })
  unfolding invalid_form
  other_valid n form count = rw (ne_eqb x 0 n)

-- ---- a form

module _ (lore : List ℕ) (noted : Pair Piece) (t : List ℕ) (found : Tally) (invalid : Bool) (invalid_is : invalid ≡ invalid_form lore noted) where
  -- so many rows, and the notes with this one on crowding
  abbrev tally : ℕ → Bool → Tally
  tally n crowded =
      record {
        rows = n;
        notes = record { invalid = found.notes.invalid || invalid; deep = found.notes.deep; crowded = crowded };
      }

  pub note_crowded : found.notes.crowded ≡ true → PairNoted lore noted t found (tally found.rows found.notes.crowded) t
  note_crowded f =
      rw invalid_is (subst (λ (b : Bool). PairNoted lore noted t found (record {
        rows = found.rows;
        notes = record { invalid = found.notes.invalid || invalid_form lore noted; deep = found.notes.deep; crowded = b };
      }) t) (sym f) (was_crowded f))

  module _ (stood : Bool) (row : List ℕ) (packs : PairRow row noted)
      (looked : stood ≡ among row (rows_of (length row) found.rows t)) where
    wide : length row ≡ row_width
    wide = row_length row noted.of noted.form noted.last packs

    found_among : (b : Bool) → stood ≡ b → among row (rows_of row_width found.rows t) ≡ b
    found_among b f = ap (λ (w : ℕ). among row (rows_of w found.rows t)) (sym wide) ∙ sym looked ∙ f

    pub note_stands : stood ≡ true → PairNoted lore noted t found (tally found.rows found.notes.crowded) t
    note_stands f = rw invalid_is (stands row packs (found_among true f))

    pub note_no_room : stood ≡ false → most_images ≤ found.rows → PairNoted lore noted t found (tally found.rows true) t
    note_no_room f l = rw invalid_is (finds_no_room row packs (found_among false f) l)

    pub note_behind : (t' : List ℕ) → stood ≡ false → found.rows < most_images
        → t' ≡ table_of (rows_of (length row) found.rows t ++ (row ∷ [])) t
        → PairNoted lore noted t found (tally (found.rows + 1) found.notes.crowded) t'
    note_behind t' f l a =
        rw invalid_is
        (goes_behind row t' packs (found_among false f) l
        (a ∙ ap (λ (w : ℕ). table_of (rows_of w found.rows t ++ (row ∷ [])) t) wide))
