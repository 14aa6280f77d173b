-- A used place asks what `is_symbol` asks, an unused one compares with 255: the definition's two clauses. Assumes nothing.
use Rattle.entries.proofs.symbol_holds.Goals as goal

pub returns-then-used : goal.returns-then-used
returns-then-used c = rw c.if-used.true c.is_symbol.ensures

pub returns-else-used : goal.returns-else-used
returns-else-used c = rw c.if-used.false
