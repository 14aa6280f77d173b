-- What a call wrote is read back by the next: the row of a reply's summary stands for that summary (PackedLaws of worktable). Assumes
-- nothing.
use mathlib.Core.Path.{sym}
use Prim.Native.Nat.{ℕ, ◌<◌}
use native.Mathlib.Omega.{arith}
use lib.ListN.{get_or}
use Rattle.form.specs.Held.{Holds}
use Rattle.form.specs.declared.Summary.{Summary}
use Rattle.worktable.specs.Packed.{packed}
use Rattle.worktable.proofs.PackedLaws.{packed_length, packed_nonterminal, packed_above, packed_summary}
use Rattle.ujthanor.specs.LentRows.{StandsFor}

pub written_stands : (s : Summary) → Holds s → ((k : ℕ) → get_or s.names k 0 < 256) → StandsFor (packed 0 s) s
written_stands s holds bytes =
    record {
      row_shows = λ _. sym (packed_summary 0 s bytes (omega arith) holds);
      else_none = λ none. absurd (none (packed_length 0 s, packed_nonterminal 0 s (omega arith), packed_above 0 s holds.counted));
    }
