use mathlib.Core.Path.{◌≡◌}
use Prim.Native.Nat.{◌-◌}
use Rattle.entries.specs.Tests.{first_fault}
use Rattle.entries.specs.Entries.{symbol_tests}
use Rattle.entries.proofs.test_symbols.Given as goal

abbrev pub invariant-loop-j : goal.invariant-loop-j
invariant-loop-j l =
    first_fault (symbol_tests l.s.names l.s.nonterminals l.file l.at 0 l.symbols)
    ≡ first_fault (symbol_tests l.s.names l.s.nonterminals l.file l.at l.j (l.symbols - l.j))
