-- The events and the images of round r + 1, after its walk from the state after round r. The walk stopped: some outcome differs, which is a
-- mismatch. It went through: no outcome differs, and the notes say which of the other events there are, since each outcome was noted
-- and each note has an outcome. The rows are images, and all images where none was past the room; 256 different rows and one image
-- more are too many. Where no row came no image is new, and where one came, row n is of a new one. Assumes nothing.
use mathlib.Core.Path.{◌≡◌, refl, sym, ◌∙◌, subst}
use mathlib.Core.Bool.{true, false, false≢true}
use mathlib.Core.List.{List}
use Prim.Native.Nat.{ℕ, suc, ◌≤◌, ◌<◌}
use native.Mathlib.Decide.{dec_lt}
use native.Mathlib.Omega.{arith}
use Rattle.std.specs.Prelude.{Option, Some, None}
use Rattle.words.specs.Reader.{Outcome, reduced, differ}
use Rattle.words.proofs.MismatchLaws.{reduced_not_differ}
use Rattle.pieces.specs.declared.Piece.{Piece}
use Rattle.template.specs.Layout.{template_rules}
use Rattle.template.specs.Order.{IsSound}
use Rattle.schema.specs.Schemas.{LoreOf}
use Rattle.trees.specs.Events.{Pair}
use Rattle.trees.specs.Verdict.{Quiet}
use Rattle.trees.proofs.EventLaws.{image_later}
use Rattle.trees.proofs.RoundLaws.{InvalidOutcome}
use Rattle.trees.proofs.TableLaws.{row_more_crowded, rows_not_crowded}
use Rattle.worktable.specs.Packed.{most_images, PairRow}
use Rattle.pairs.specs.Books.{Book, book_of, table_row, Tabled}
use Rattle.pairs.specs.declared.Tally.{Tally}
use Rattle.walk.specs.Walks.{ValidForm, Grown, Happened, Noted, Walked}
use Rattle.walk.proofs.ProgressLaws.{tabled_later}
use Rattle.rounds.specs.Checks.{ImageOf, EventOf, NewOf}
use Rattle.rounds.proofs.ListedLaws.{row_one_pair, pair_one_row, Listed, listed}
use Rattle.rounds.proofs.ResultLaws.{MismatchOf, InvalidOf, DeepOf, CrowdedOf, Over, Holding}
use Rattle.rounds.proofs.ResultLaws.{over_image, over_mismatch, over_deep, over_invalid}

-- the walk over the file's rules
abbrev pub WalkedOver : List ℕ → List ℕ → Book → Option Tally → List ℕ → Type 0
WalkedOver f lore = Walked lore (template_rules f)

module _ (f lore : List ℕ) (sound : IsSound f) (taught : LoreOf f lore) (t t' : List ℕ) (n r : ℕ) (rows : Holding f (book_of t n) r)
    (quiet : Quiet (EventOf f) (NewOf f) r) where
  abbrev Made : ℕ → Outcome Piece → Type 0
  Made = Over f lore (book_of t n)

  pub stopped_mismatch : WalkedOver f lore (book_of t n) None t' → MismatchOf f (suc r)
  stopped_mismatch (same_length, same_rest, found) = (over_mismatch f lore sound taught (book_of t n) r rows quiet).1 found

  module _ (tally : Tally) (walked : WalkedOver f lore (book_of t n) (Some tally) t') where
    abbrev after : Book
    after = book_of t' tally.rows

    noted : (x : ℕ) (o : Outcome Piece) → Made x o → Noted lore (template_rules f) tally.notes after x o
    noted = walked.2

    happened : Happened lore (template_rules f) Made tally.notes after
    happened = walked.1

    grown : Grown lore (template_rules f) Made (book_of t n) after
    grown = walked.0

    -- ---- the events that the walk went past

    pub went_matched : MismatchOf f (suc r) → ⊥
    went_matched e =
        let (x, a, c, o) = (over_mismatch f lore sound taught (book_of t n) r rows quiet).0 e in
        reduced_not_differ (sym (noted x (differ a c) o).reduces)

    pub went_invalid : tally.notes.invalid ≡ true → InvalidOf f (suc r)
    went_invalid e =
        let (s, c, o, v) = happened.invalid_page e in
        (over_invalid f lore sound taught (book_of t n) r rows quiet).1 (reduced s c, o, v)

    pub went_valid : tally.notes.invalid ≡ false → InvalidOf f (suc r) → ⊥
    went_valid e v =
        let (o, a, h) = (over_invalid f lore sound taught (book_of t n) r rows quiet).0 v in
        let d = noted 0 o a in
        subst (InvalidOutcome (ValidForm lore)) d.reduces h (d.valid refl e)

    pub went_deep : tally.notes.deep ≡ true → DeepOf f (suc r)
    went_deep e = (over_deep f lore sound taught (book_of t n) r rows quiet).1 (happened.too_deep e)

    pub went_shallow : tally.notes.deep ≡ false → DeepOf f (suc r) → ⊥
    went_shallow e v =
        let (x, s, c, o, h) = (over_deep f lore sound taught (book_of t n) r rows quiet).0 v in
        let d = noted x (reduced s c) o in
        let same : s ≡ d.form = cc d.reduces in
        false≢true (sym e ∙ d.deep_noted (rw same at h))

    -- ---- the rows are the images

    pub row_image : (k : ℕ) → n ≤ k → k < tally.rows → (p : Pair Piece) → PairRow (table_row t' k) p → ImageOf f (suc r) p
    row_image k low high p a =
        let (q, b, o, few) = grown.found k low high in
        subst (ImageOf f (suc r)) (row_one_pair (table_row t' k) q p b a)
        ((over_image f lore sound taught (book_of t n) r rows quiet q).1 (o, few))

    -- the rows below n hold what they held
    pub older_tabled : Holding f (book_of t' n) r
    older_tabled p = (
      λ a. (rows p).0 (tabled_later (book_of t' n) (book_of t n) (omega arith) (λ k h. sym (grown.same_rows k h)) p a),
      λ i. tabled_later (book_of t n) (book_of t' n) (omega arith) grown.same_rows p ((rows p).1 i),
    )

    pub tabled_image : (p : Pair Piece) → Tabled after p → ImageOf f (suc r) p
    tabled_image p (k, h, a) = from (dec_lt k n)
      where
        from : Dec (k < n) → ImageOf f (suc r) p
        from (yes l) = image_later (omega arith) ((older_tabled p).0 (k, l, a))
        from (no l) = row_image k (omega (arith, l)) h p a

    pub image_tabled : tally.notes.crowded ≡ false → (p : Pair Piece) → ImageOf f (suc r) p → Tabled after p
    image_tabled e p i =
        let (o, few) = (over_image f lore sound taught (book_of t n) r rows quiet p).0 i in
        let d = noted p.of (reduced p.form p.last) o in
        let same : d.form ≡ p.form = cc (sym d.reduces) in
        let last : d.last ≡ p.last = cc (sym d.reduces) in
        rw (same, last) at (d.stands (rw same few) e)

    went_listed : Listed after
    went_listed =
        let rows = grown.proper_rows in
        listed t' tally.rows (λ k h. let (p, a, g) = rows.proper k h in (p, a)) rows.different

    pub went_crowded : tally.notes.crowded ≡ true → CrowdedOf f (suc r)
    went_crowded e =
        let (full, (x, s, c, o, few, new)) = happened.past_room e in
        let p : Pair Piece = record { of = x; form = s; last = c } in
        row_more_crowded went_listed.pairs went_listed.distinct (λ q a. tabled_image q (went_listed.each q a))
        (omega (arith, full, went_listed.count)) p ((over_image f lore sound taught (book_of t n) r rows quiet p).1 (o, few))
        (λ a. new (went_listed.each p a))

    pub went_room : tally.notes.crowded ≡ false → CrowdedOf f (suc r) → ⊥
    went_room e =
        let few : tally.rows ≤ most_images = grown.proper_rows.few in
        rows_not_crowded went_listed.pairs (λ p i. went_listed.every p (image_tabled e p i)) (omega (arith, went_listed.count, few))

    -- ---- new images

    pub no_more_new : tally.notes.crowded ≡ false → tally.rows ≡ n → NewOf f (suc r) → ⊥
    no_more_new e same new =
        new.not_before ((older_tabled new.image).0 (rw same at (image_tabled e new.image new.here)))

    pub more_new : n < tally.rows → NewOf f (suc r)
    more_new h =
        let (p, a, g) = grown.proper_rows.proper n h in
        record {
          image = p;
          here = row_image n (omega arith) h p a;
          not_before = λ i.
              let (k, l, b) = (older_tabled p).1 i in
              let e : k ≡ n = grown.proper_rows.different k n (omega (arith, l, h)) h
              (pair_one_row (table_row t' k) (table_row t' n) p b a) in
              omega (arith, l, e);
        }
