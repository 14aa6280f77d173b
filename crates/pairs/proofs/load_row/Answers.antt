-- Unpacking reads the arrays of the pair that the row packs, and a row of another nonterminal packs none of x (LoadLaws). Assumes nothing.
use Rattle.pairs.proofs.LoadLaws.{loads}
use Rattle.pairs.proofs.load_row.Goals as goal

pub returns-then-not-row_fits : goal.returns-then-not-row_fits
returns-then-not-row_fits c = search loads

pub returns : goal.returns
returns c = search loads
