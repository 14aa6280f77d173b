-- Counts, names and pieces are as they were made, so the struct of them is that of the contract by congruence. Assumes nothing.
use Rattle.ujthanor.proofs.no_summary.Goals as goal

pub returns : goal.returns
returns c = cc
