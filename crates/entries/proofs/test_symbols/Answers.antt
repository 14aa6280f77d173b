-- The first fault of all symbols is that of the symbols left, from symbol j on: one that fails leaves with its place, and behind one that passes
-- the next decides. Assumes nothing.
use Rattle.std.proofs.Common.{◌≡◌, ◌-◌, ◌∙◌, sym, arith}
use Rattle.entries.proofs.OrderLaws.{passed_on, part_stays, part_passes}
use Rattle.entries.proofs.RuleLaws.{symbols_end, symbols_next, symbol_tested}
use Rattle.entries.proofs.test_symbols.Goals as goal

pub loop-j-init : goal.loop-j-init
loop-j-init c = let all : c.args.symbols - 0 ≡ c.args.symbols = omega arith in rw all

pub returns-in_err-ask : goal.returns-in_err-ask
returns-in_err-ask c =
    let A = c.args.s.names in
    let N = c.args.s.nonterminals in
    passed_on c.from_residual.result c.from_residual.ensures.1
    ∙ part_stays _ _ (symbols_next A N c.args.file.now c.args.at c.args.symbols c.loop-j.j (omega arith)) c.loop-j.invariant
    (symbol_tested A N c.args.file.now c.args.at c.loop-j.j c.from-used.ensures c.symbol_holds-holds.ensures c.ask.ensures) c.in_err-ask.was

pub loop-j-preserved : goal.loop-j-preserved
loop-j-preserved c =
    let A = c.args.s.names in
    let N = c.args.s.nonterminals in
    part_passes _ _ (symbols_next A N c.args.file.now c.args.at c.args.symbols c.loop-j.j (omega arith)) c.loop-j.invariant
    (symbol_tested A N c.args.file.now c.args.at c.loop-j.j c.from-used.ensures c.symbol_holds-holds.ensures c.ask.ensures) c.in_ok-ask.was

pub returns : goal.returns
returns c =
    symbols_end c.args.s.names c.args.s.nonterminals c.args.file.now c.args.at c.args.symbols c.loop-j.j (omega arith)
    ∙ sym c.loop-j.invariant
