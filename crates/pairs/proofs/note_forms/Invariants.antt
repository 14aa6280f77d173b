use mathlib.Core.Path.{◌≡◌}
use Prim.Native.Nat.{◌≤◌}
use lib.ListN.{length}
use Rattle.form.specs.Held.{summary_of, form_of, last_of}
use Rattle.worktable.specs.Packed.{most_images}
use Rattle.pairs.specs.Turns.{FormsNoted}
use Rattle.pairs.proofs.FormsLaws.{Packs}
use Rattle.pairs.proofs.note_forms.Given as goal

abbrev pub invariant-loop-x : goal.invariant-loop-x
invariant-loop-x l =
    record {
      room : l.tally.rows ≤ most_images;
      same_length : length l.table ≡ length l.initial.table;
      packs : Packs l.row (form_of (summary_of l.c l.names l.values)) (last_of (summary_of l.c l.names l.values));
      noted : FormsNoted l.lore.entries l.marks (form_of (summary_of l.c l.names l.values)) (last_of (summary_of l.c l.names l.values))
          l.initial.table l.initial.tally l.x l.tally l.table;
    }
