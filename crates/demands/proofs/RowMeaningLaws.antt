-- What a row of the worktable means (specs/Third.antt): it is the row of an image, and an image is a nonterminal with the reduced form of a
-- string of one of its trees. That string is spelled by bytes (proofs/ProducedLaws.antt), so the summary that the row packs is the
-- string's, and each of its relations is that of its factor (proofs/RelationLaws.antt). Assumes nothing.
use mathlib.Core.List.{List, Memᴰ}
use Prim.Native.Nat.{ℕ}
use Rattle.template.specs.Order.{IsSound}
use Rattle.pieces.specs.declared.Piece.{Piece}
use Rattle.summary.specs.Words.{SummaryOf}
use Rattle.trees.specs.Events.{Pair}
use Rattle.worktable.specs.Packed.{PairRow}
use Rattle.rounds.specs.Checks.{ImageOf, Rows}
use Rattle.demands.specs.Third.{RowMeans}
use Rattle.demands.proofs.ProducedLaws.{tree_written}
use Rattle.demands.proofs.RelationLaws.{relations_mean}

module _ (f : List ℕ) (sound : IsSound f) (round : ℕ) where
  -- the summary in the row of an image
  image_summary : (row : List ℕ) (p : Pair Piece) (image : ImageOf f round p) (packs : PairRow row p)
      → SummaryOf f image.string packs.summary
  image_summary row p image packs = record {
    spelled = tree_written f sound image.under.tree;
    reduces = rw (packs.form_is, packs.last_is) image.reduced;
    holds = packs.holds;
  }

  pub row_means : (rows : List (List ℕ)) → Rows f round rows → (row : List ℕ) → Memᴰ row rows → RowMeans f round row
  row_means rows made row member =
      let (p, image, packs) = made.each_image row member in
      let of-string = image_summary row p image packs in
      record {
        of = p.of;
        string = image.string;
        under = image.under;
        summary = packs.summary;
        summary_of = of-string;
        relations = (relations_mean f image.string packs.summary sound of-string).1;
        row_is = packs.row_is;
      }
