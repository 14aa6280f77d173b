-- One pair more in the walk, of at most 16 tags (pairs/specs/Turns.antt, ProgressLaws.antt): its row stands among the others, or finds no
-- room, which is noted, or goes behind them. A row is decided by its pair, so that a row that does not stand among the others is that of a
-- pair that they do not have. Assumes nothing.
use mathlib.Core.Path.{◌≡◌, refl, sym, ◌∙◌}
use mathlib.Core.Bool.{Bool, true, false, ◌||◌, false≢true}
use mathlib.Core.List.Memᴰ
use mathlib.Core.List.{List, [], ◌∷◌, ◌++◌}
use mathlib.Core.Logic.{◌⊎◌, inl, inr, ⊎_elim}
use Prim.Native.Nat.{ℕ, ◌+◌, ◌*◌, ◌≤◌, ◌<◌}
use native.Mathlib.Omega.{arith}
use lib.ListN.{length}
use Rattle.words.specs.Reduced.{Stack, tags}
use Rattle.words.specs.Reader.{Outcome, reduced}
use Rattle.std.proofs.lemmas.Bool.{or_cases, or_parts}
use Rattle.pieces.specs.declared.Piece.{Piece}
use Rattle.pieces.specs.Pieces.{most_tags}
use Rattle.trees.specs.Events.{Pair}
use Rattle.rows.specs.Tables.{rows_of, table_of, among}
use Rattle.rows.proofs.OrderLaws.{among_member, not_among}
use Rattle.rows.proofs.TableLaws.{row_member, member_row, add_before, add_last, add_length, add_rest}
use Rattle.worktable.specs.Packed.{row_width, most_images, table_long, PairRow}
use Rattle.worktable.proofs.RowLaws.{row_length, pair_row}
use Rattle.pairs.specs.Books.{Book, book_of, table_row, Tabled}
use Rattle.pairs.specs.Turns.{invalid_form, after_pair, PairNoted, was_crowded, stands, finds_no_room, goes_behind}
use Rattle.pairs.specs.declared.Tally.{Tally}
use Rattle.shares.proofs.ShareLaws.{below_next}
use Rattle.walk.specs.Walks.{ValidForm, ProperPair, ProperRows, Noted}
use Rattle.walk.proofs.ValidLaws.{invalid-form, valid_start_form}
use Rattle.walk.proofs.ProgressLaws.{tally_book, tabled_later, noted_later, Sofar}

-- a row stands among the others exactly where its pair does
module _ (row : List ℕ) (p : Pair Piece) (packs : PairRow row p) (t : List ℕ) (m : ℕ) where
  among_tabled : among row (rows_of row_width m t) ≡ true → Tabled (book_of t m) p
  among_tabled e =
      let (k, l, q) = member_row row_width row m t (among_member row (rows_of row_width m t) e) in
      (k, l, rw (← q) packs)

  not_among_row : among row (rows_of row_width m t) ≡ false → (k : ℕ) → k < m → table_row t k ≡ row → ⊥
  not_among_row e k l q = not_among row (rows_of row_width m t) e (Memᴰ.cast (sym q) (row_member row_width k m t l))

  not_among_tabled : among row (rows_of row_width m t) ≡ false → Tabled (book_of t m) p → ⊥
  not_among_tabled e (k, l, r) = not_among_row e k l (pair_row (table_row t k) row p.of p.form p.last r packs)

-- the outcomes seen, and one more
abbrev pub Also : (ℕ → Outcome Piece → Type 0) → ℕ → Outcome Piece → ℕ → Outcome Piece → Type 0
Also Seen x o y q = Seen y q ⊎ ((y ≡ x) × (q ≡ o))

module _ {lore rules : List ℕ} {R Seen : ℕ → Outcome Piece → Type 0} {b : Book} {t : List ℕ} {found : Tally}
    (sofar : Sofar lore rules R Seen b t found) (p : Pair Piece) (is-result : R p.of (reduced p.form p.last))
    (l : tags p.form ≤ most_tags) (proper : ProperPair lore rules p) where
  -- what holds after it
  abbrev AfterPair : Tally → List ℕ → Type 0
  AfterPair r t' = Sofar lore rules R (Also Seen p.of (reduced p.form p.last)) b t' r

  -- the tally of m rows with it
  abbrev with_pair : ℕ → Bool → Tally
  with_pair m crowded = record { rows = m; notes = after_pair lore p found.notes crowded }

  -- what was seen stays noted, and the pair is noted where its row stands unless the notes tell of no room
  module _ (m : ℕ) (crowded : Bool) (t' : List ℕ) (stay : crowded ≡ false → found.notes.crowded ≡ false)
      (rows_stay : (q : Pair Piece) → Tabled (tally_book t found) q → Tabled (book_of t' m) q)
      (there : crowded ≡ false → Tabled (book_of t' m) p) where
    seen_next : (y : ℕ) (q : Outcome Piece) → Also Seen p.of (reduced p.form p.last) y q
        → Noted lore rules (with_pair m crowded).notes (book_of t' m) y q
    seen_next y q (inl v) =
        noted_later
        (record {
          invalid_stays = λ f. (or_parts found.notes.invalid (invalid_form lore p) f).0;
          deep_stays = λ h. h;
          crowded_stays = stay;
          rows_stay = rows_stay;
        })
        (sofar.seen y q v)
    seen_next y q (inr (e, f)) =
        record {
          form = p.form;
          last = p.last;
          reduces = f;
          deep_noted = λ h. absurd (omega arith);
          stands = λ h g. rw e (there g);
          valid = λ z g. valid_start_form lore p (or_parts found.notes.invalid (invalid_form lore p) g).1 (sym e ∙ z);
        }

  -- an invalid page before, or this form
  page_happened : (found.notes.invalid || invalid_form lore p) ≡ true
      → (s : Stack Piece) × (c : Piece) × R 0 (reduced s c) × (ValidForm lore s c → ⊥)
  page_happened f =
      ⊎_elim sofar.happened.invalid_page
      (λ z.
      let (x, v) = invalid-form lore p z in
      (p.form, p.last, rw x at is-result, v))
      (or_cases found.notes.invalid _ f)

  -- the table stays: the row stands in it, or there is no room
  kept_next : (crowded : Bool) → (crowded ≡ false → found.notes.crowded ≡ false)
      → (crowded ≡ false → Tabled (tally_book t found) p)
      → (crowded ≡ true
      → (found.rows ≡ most_images) × ((x : ℕ) × (s : Stack Piece) × (c : Piece) × R x (reduced s c) × (tags s ≤ most_tags)
      × (Tabled (tally_book t found) (record { of = x; form = s; last = c }) → ⊥)))
      → AfterPair (with_pair found.rows crowded) t
  kept_next crowded stay there past =
      record {
        grown = sofar.grown;
        happened = record { invalid_page = page_happened; too_deep = sofar.happened.too_deep; past_room = past };
        seen = seen_next found.rows crowded t stay (λ q v. v) there;
      }

  -- the row goes behind the others
  module _ (row t' : List ℕ) (packs : PairRow row p) (new : among row (rows_of row_width found.rows t) ≡ false)
      (h : found.rows < most_images) (added : t' ≡ table_of (rows_of row_width found.rows t ++ (row ∷ [])) t) where
    fits : found.rows * row_width + row_width ≤ length t
    fits = omega (arith, sofar.grown.proper_rows.room)

    long : length row ≡ row_width
    long = row_length row p.of p.form p.last packs

    same_length : length t' ≡ length t
    same_length = add_length row_width t t' row found.rows fits long added

    same : (k : ℕ) → k < found.rows → table_row t' k ≡ table_row t k
    same = add_before row_width t t' row found.rows fits long added

    at_last : (k : ℕ) → k ≡ found.rows → table_row t' k ≡ row
    at_last k e = rw e (add_last row_width t t' row found.rows fits long added)

    -- no row before is the new one
    differs : (k : ℕ) → k < found.rows → table_row t' k ≡ row → ⊥
    differs k g e = not_among_row row p packs t found.rows new k g (sym (same k g) ∙ e)

    added_proper : ProperRows lore rules (book_of t' (found.rows + 1))
    added_proper =
        let before = sofar.grown.proper_rows in
        record {
          room = rw same_length before.room;
          few = omega arith;
          proper = λ k g.
              ⊎_elim (λ a. rw (same k a) (before.proper k a)) (λ a. (p, rw (at_last k a) packs, proper)) (below_next k found.rows g);
          different = λ j k g g' q.
              ⊎_elim
              (λ a. ⊎_elim (λ a'. before.different j k a a' (sym (same j a) ∙ q ∙ same k a'))
              (λ a'. absurd (differs j a (q ∙ at_last k a'))) (below_next k found.rows g'))
              (λ a. ⊎_elim (λ a'. absurd (differs k a' (sym q ∙ at_last j a))) (λ a'. a ∙ sym a') (below_next k found.rows g'))
              (below_next j found.rows g);
        }

    added_next : AfterPair (with_pair (found.rows + 1) found.notes.crowded) t'
    added_next =
        let before = sofar.grown in
        record {
          grown = record {
            same_length = same_length ∙ before.same_length;
            same_rest = add_rest row_width t t' row found.rows fits long added table_long (omega arith) ∙ before.same_rest;
            more = omega (arith, before.more);
            proper_rows = added_proper;
            same_rows = λ k g. same k (omega (arith, before.more)) ∙ before.same_rows k g;
            found = λ k g g'.
                ⊎_elim (λ a. rw (same k a) (before.found k g a)) (λ a. (p, rw (at_last k a) packs, is-result, l))
                (below_next k found.rows g');
          };
          happened = record {
            invalid_page = page_happened;
            too_deep = sofar.happened.too_deep;
            past_room = λ f. absurd (omega (arith, (sofar.happened.past_room f).0));
          };
          seen = seen_next (found.rows + 1) found.notes.crowded t' (λ f. f)
              (tabled_later (tally_book t found) (book_of t' (found.rows + 1)) (omega arith) same)
              (λ f. (found.rows, omega arith, rw (at_last found.rows refl) packs));
        }

  pub pair_next : (r : Tally) (t' : List ℕ) → PairNoted lore p t found r t' → AfterPair r t'
  pair_next r t' (was_crowded w) =
      kept_next true (λ f. absurd (false≢true (sym f))) (λ f. absurd (false≢true (sym f))) (λ f. sofar.happened.past_room w)
  pair_next r t' (stands row packs w) =
      kept_next found.notes.crowded (λ f. f) (λ f. among_tabled row p packs t found.rows w) sofar.happened.past_room
  pair_next r t' (finds_no_room row packs w h) =
      kept_next true (λ f. absurd (false≢true (sym f))) (λ f. absurd (false≢true (sym f)))
      (λ f. (
        omega (arith, sofar.grown.proper_rows.few),
        (p.of, p.form, p.last, is-result, l, not_among_tabled row p packs t found.rows w),
      ))
  pair_next r t' (goes_behind row t'' packs w h q) = added_next row t'' packs w h q
