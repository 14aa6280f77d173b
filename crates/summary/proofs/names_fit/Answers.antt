-- Every name before place k passes; the first that does not decides. Assumes nothing.
use mathlib.Core.Path.{◌≡◌}
use native.Mathlib.Omega.{arith}
use Rattle.pieces.specs.Pieces.{most_tags}
use Rattle.summary.specs.Packing.{name_fits}
use Rattle.summary.proofs.FitLaws.{every_none, every_next, every_end, every_fails, name_in_use, name_unused}
use Rattle.summary.proofs.names_fit.Goals as goal
use Rattle.summary.proofs.names_fit.Goals.{then-k-n, else-k-n}

pub loop-k-init : goal.loop-k-init
loop-k-init c = every_none _

pub returns-then-not-fits : goal.returns-then-not-fits
returns-then-not-fits c =
    let f = name_fits c.args.known c.args.n c.args.names.now in
    let t : c.if-k-n.fits ≡ f c.loop-k.k =
    elim c.if-k-n.branch [
      | then-k-n w ↦ name_in_use c.args.known c.args.n c.loop-k.k c.args.names.now c.if-k-n.fits w.if-k-n.true w.fits-is
      | else-k-n w ↦ name_unused c.args.known c.args.n c.loop-k.k c.args.names.now c.if-k-n.fits w.if-k-n.false w.fits-is
    ] in
    every_fails c.loop-k.k f c.if-k-n.fits t c.if-not-fits.true most_tags (omega arith)

pub loop-k-preserved : goal.loop-k-preserved
loop-k-preserved c =
    let f = name_fits c.args.known c.args.n c.args.names.now in
    let t : c.if-k-n.fits ≡ f c.loop-k.k =
    elim c.if-k-n.branch [
      | then-k-n w ↦ name_in_use c.args.known c.args.n c.loop-k.k c.args.names.now c.if-k-n.fits w.if-k-n.true w.fits-is
      | else-k-n w ↦ name_unused c.args.known c.args.n c.loop-k.k c.args.names.now c.if-k-n.fits w.if-k-n.false w.fits-is
    ] in
    every_next c.loop-k.k f c.loop-k.invariant c.if-k-n.fits t c.if-not-fits.false

pub returns : goal.returns
returns c = every_end c.loop-k.k _ c.loop-k.invariant most_tags (omega arith) (omega arith)
