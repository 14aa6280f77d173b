-- Every piece before place k passes; the first that does not decides. Assumes nothing.
use mathlib.Core.Path.{◌≡◌, ◌∙◌}
use native.Mathlib.Omega.{arith}
use Rattle.pieces.specs.Pieces.{most_pieces}
use Rattle.summary.specs.Packing.{piece_fits}
use Rattle.summary.proofs.FitLaws.{every_none, every_next, every_end, every_fails, piece_in_use, piece_unused}
use Rattle.summary.proofs.pieces_fit.Goals as goal
use Rattle.summary.proofs.pieces_fit.Goals.{then-k-n, else-k-n}

pub loop-k-init : goal.loop-k-init
loop-k-init c = every_none _

pub returns-then-not-fits : goal.returns-then-not-fits
returns-then-not-fits c =
    let f = piece_fits c.args.states c.args.n c.args.values.now in
    let t : c.if-k-n.fits ≡ f c.loop-k.k =
    elim c.if-k-n.branch [
      | then-k-n w ↦ piece_in_use c.args.states c.args.n c.loop-k.k c.args.values.now c.piece_at-p.result c.piece_at-p.ensures c.if-k-n.fits w.if-k-n.true (w.fits-is ∙ w.fits-fits.ensures)
      | else-k-n w ↦ piece_unused c.args.states c.args.n c.loop-k.k c.args.values.now c.piece_at-p.result c.piece_at-p.ensures c.if-k-n.fits w.if-k-n.false (w.fits-is ∙ w.is_none-fits.ensures)
    ] in
    every_fails c.loop-k.k f c.if-k-n.fits t c.if-not-fits.true most_pieces (omega arith)

pub loop-k-preserved : goal.loop-k-preserved
loop-k-preserved c =
    let f = piece_fits c.args.states c.args.n c.args.values.now in
    let t : c.if-k-n.fits ≡ f c.loop-k.k =
    elim c.if-k-n.branch [
      | then-k-n w ↦ piece_in_use c.args.states c.args.n c.loop-k.k c.args.values.now c.piece_at-p.result c.piece_at-p.ensures c.if-k-n.fits w.if-k-n.true (w.fits-is ∙ w.fits-fits.ensures)
      | else-k-n w ↦ piece_unused c.args.states c.args.n c.loop-k.k c.args.values.now c.piece_at-p.result c.piece_at-p.ensures c.if-k-n.fits w.if-k-n.false (w.fits-is ∙ w.is_none-fits.ensures)
    ] in
    every_next c.loop-k.k f c.loop-k.invariant c.if-k-n.fits t c.if-not-fits.false

pub returns : goal.returns
returns c = every_end c.loop-k.k _ c.loop-k.invariant most_pieces (omega arith) (omega arith)
