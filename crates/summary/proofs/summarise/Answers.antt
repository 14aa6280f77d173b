-- The arrays hold the empty word; what reading finds is answered, and what it leaves in the arrays is packed. Assumes nothing.
use mathlib.Core.Path.{◌∙◌}
use native.Mathlib.Omega.{arith}
use Rattle.std.proofs.lemmas.Result.{err_from_is_err_and}
use Rattle.summary.proofs.FragmentLaws.{empty_holds, empty_first, finds_turns}
use Rattle.summary.proofs.summarise.Goals as goal

pub read_bytes-requires : goal.read_bytes-requires
read_bytes-requires c =
    record {
      holds = empty_holds _ _ c.put_piece.ensures (rw c.empty.ensures (omega arith));
      values_value = empty_first _ _ c.put_piece.ensures ∙ c.empty.ensures;
    }

pub returns-in_err-counts : goal.returns-in_err-counts
returns-in_err-counts c =
    let p = err_from_is_err_and c.from_residual.result c.from_residual.ensures.1 in
    rw (p.1, p.2) (search (finds_turns, c.in_err-counts.was))

pub returns : goal.returns
returns c = search (finds_turns, c.in_ok-counts.was)
