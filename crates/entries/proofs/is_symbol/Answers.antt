-- The ranges are asked from the lowest on, and each way out is a law of the definition at that range. Assumes nothing.
use native.Mathlib.Omega.{arith}
use Rattle.entries.proofs.RuleLaws.{byte_start, byte_below_ends, byte_end, byte_below_nonterminals, byte_nonterminal}
use Rattle.entries.proofs.is_symbol.Goals as goal

pub returns-then-byte-names : goal.returns-then-byte-names
returns-then-byte-names c = byte_start _ _ _ c.if-byte-names.true

pub returns-then-b-lt32 : goal.returns-then-b-lt32
returns-then-b-lt32 c = byte_below_ends c.args.names c.args.nonterminals c.args.byte (omega arith) (omega arith)

pub returns-then-b-from : goal.returns-then-b-from
returns-then-b-from c = byte_end c.args.names c.args.nonterminals c.args.byte (omega arith) (omega arith) (omega arith)

pub returns-then-b-lt64 : goal.returns-then-b-lt64
returns-then-b-lt64 c = byte_below_nonterminals c.args.names c.args.nonterminals c.args.byte (omega arith) (omega arith)

pub returns : goal.returns
returns c =
    rw (c.from-b.ensures, c.from-2.ensures)
    (byte_nonterminal c.args.names c.args.nonterminals c.args.byte (omega arith) (omega arith))
