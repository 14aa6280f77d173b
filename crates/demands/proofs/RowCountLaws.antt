-- How many rows a pass leaves, and how wide they are. Ascending rows differ, and rows that differ pack different images; so more than 256
-- rows would be more than 256 images, which is an event, and a round that passes has none. Each row has 21 entries. Assumes nothing.
use mathlib.Core.Path.{◌≡◌, refl, ap}
use mathlib.Core.List.Memᴰ
use mathlib.Core.List.{List, [], ◌∷◌, Memᴰ}
use mathlib.Core.Logic.{⊎_elim}
use Prim.Native.Nat.{ℕ, suc, ◌≤◌, ◌<◌}
use native.Mathlib.Decide.{dec_lt}
use native.Mathlib.Omega.{arith}
use lib.ListN.{length}
use Rattle.trees.specs.Events.{Pair, Distinct, distinct_none, distinct_more}
use Rattle.trees.specs.Verdict.{Quiet}
use Rattle.trees.proofs.TableLaws.{rows_crowded}
use Rattle.rows.specs.Tables.{Above, Ascending}
use Rattle.rows.proofs.OrderLaws.{less_irrefl}
use Rattle.rows.proofs.SortLaws.{first_less}
use Rattle.pieces.specs.declared.Piece.{Piece}
use Rattle.worktable.specs.Packed.{row_width, most_images, PairRow}
use Rattle.worktable.proofs.RowLaws.{row_length}
use Rattle.rows.proofs.TableLaws.{Wide}
use Rattle.rounds.specs.Checks.{ImageOf, EventOf, NewOf, Rows}
use Rattle.rounds.proofs.ListedLaws.{pair_one_row}

-- ---- ascending rows differ

first_absent : (x : List ℕ) (xs : List (List ℕ)) → Above x xs → Ascending xs → Memᴰ x xs → ⊥
first_absent x xs a s m = less_irrefl x (first_less x xs a s x m)

-- ---- the images that rows pack

module _ (I : Pair Piece → Type 0) where
  -- each row packs an image
  abbrev Imaged : List (List ℕ) → Type 0
  Imaged rows = (row : List ℕ) → Memᴰ row rows → (p : Pair Piece) × I p × PairRow row p

  -- as many images as rows, each once
  record Unpacked (rows : List (List ℕ)) : Type 0 where
    pairs : List (Pair Piece)
    count : length pairs ≡ length rows
    distinct : Distinct pairs
    are_images : (p : Pair Piece) → Memᴰ p pairs → I p
    have_rows : (p : Pair Piece) → Memᴰ p pairs → (row : List ℕ) × Memᴰ row rows × PairRow row p

  unpacked : (rows : List (List ℕ)) → Ascending rows → Imaged rows → Unpacked rows
  unpacked [] s imaged = record {
    pairs = [];
    count = refl;
    distinct = distinct_none;
    are_images = λ p m. absurd (Memᴰ.not-nil m);
    have_rows = λ p m. absurd (Memᴰ.not-nil m);
  }
  unpacked (x ∷ xs) (a, s) imaged =
      let (q, i, c) = imaged x (Memᴰ.head refl) in
      let rest = unpacked xs s (λ row m. imaged row (Memᴰ.tail m)) in
      record {
        pairs = q ∷ rest.pairs;
        count = ap suc rest.count;
        distinct =
            distinct_more (λ m.
            let (row, n, d) = rest.have_rows q m in
            first_absent x xs a s (Memᴰ.cast (pair_one_row x row q c d) n)) rest.distinct;
        are_images = λ p m. ⊎_elim (λ (e : p ≡ q). rw e i) (rest.are_images p) (Memᴰ.cases_cons m);
        have_rows = λ p m.
            ⊎_elim (λ (e : p ≡ q). (x, Memᴰ.head refl, rw e c))
            (λ k. let (row, n, d) = rest.have_rows p k in (row, Memᴰ.tail n, d)) (Memᴰ.cases_cons m);
      }

-- ---- the rows of a round

module _ (f : List ℕ) (r : ℕ) (rows : List (List ℕ)) (made : Rows f r rows) where
  pub rows_few : Quiet (EventOf f) (NewOf f) r → length rows ≤ most_images
  rows_few quiet = from (dec_lt most_images (length rows))
    where
      from : Dec (most_images < length rows) → length rows ≤ most_images
      from (no l) = omega (arith, l)
      from (yes l) =
          let u = unpacked (ImageOf f r) rows made.ascending made.each_image in
          let n : length u.pairs ≡ length rows = u.count in
          absurd (quiet 4 (rows_crowded u.pairs u.distinct u.are_images (omega (arith, l, n))))

  pub rows_are_wide : Wide row_width rows
  rows_are_wide row m =
      let (p, i, c) = made.each_image row m in
      row_length row p.of p.form p.last c
