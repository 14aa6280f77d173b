-- The file that section 13 splits (specs/Cases.antt). That it is sound, that its parts fit, and that the file of its sorted parts is the one
-- stated are computed; that file is the ordinary one (long's `written_shortens`), and the promise allows one reply. Assumes nothing.
use Rattle.std.proofs.lemmas.Bool.{and_parts}
use mathlib.Core.Path.{◌≡◌, refl, sym, subst}
use mathlib.Core.Bool.{Bool, true, ◌&&◌}
use mathlib.Core.List.{List, [], ◌∷◌, ◌++◌}
use Prim.Native.Nat.{ℕ, zero, suc, ◌+◌}
use native.Mathlib.Omega.{arith}
use lib.Dec.{ltb}
use lib.ListN.{length, drop}
use borrow.Author.Tests.{ltb-true, leb-true}
use Rattle.rows.specs.Tables.{order, flat, before, put_in, sort_into, sorted}
use Rattle.entries.specs.Tests.{first_fault}
use Rattle.entries.specs.Entries.{symbol_tests, field_tests, width, precedes, ascends, entry_tests, body_tests}
use Rattle.template.specs.Layout.{most_nonterminals, most_rules, nonterminals, half_at, part_of}
use Rattle.template.specs.Order.{SoundOf, head_tests, contents_tests, bodies, tests}
use Rattle.save.specs.Files.{Bytes, head_of, file_of}
use Rattle.long.specs.Rules.{long_symbols, long_field, long_count, extras, PartsFit, rest_of, part, parts_of, all_parts}
use Rattle.long.specs.Splits.{long_rules, all_extras, Shortens, SplitSays}
use Rattle.std.specs.Prelude.{Ok, Err}
use Rattle.long.specs.declared.SplitRefusal.TheVariants.{Short}
use Rattle.long.proofs.UniqueLaws.{split_unique}
use Rattle.long.proofs.WrittenLaws.{written_file, written_shortens}
use Rattle.demands.specs.Cases.{long_case, short_case, SplitCase}

-- ---- computed

all_bytes : List ℕ → Bool
all_bytes [] = true
all_bytes (x ∷ xs) = ltb x 256 && all_bytes xs

all-bytes : (xs : List ℕ) → all_bytes xs ≡ true → Bytes xs
unfolding all_bytes
all-bytes [] e i = omega arith
all-bytes (x ∷ xs) e zero = ltb-true x 256 (and_parts (ltb x 256) _ e).0
all-bytes (x ∷ xs) e (suc i) = all-bytes xs (and_parts (ltb x 256) _ e).1 i

bytes : Bytes long_case
unfolding all_bytes long_case
bytes = all-bytes long_case refl

sound : SoundOf long_symbols long_case
unfolding long_case tests head_tests contents_tests bodies body_tests entry_tests field_tests symbol_tests first_fault ascends precedes width half_at
sound = refl

fits : PartsFit (nonterminals long_case) (long_rules long_case)
unfolding long_case half_at part_of long_field extras
fits = (
  leb-true (nonterminals long_case + all_extras long_case) most_nonterminals refl,
  leb-true (long_count (long_rules long_case) + all_extras long_case) most_rules refl,
)

file_is : written_file long_case bytes sound fits ≡ short_case
unfolding long_case short_case half_at part_of long_field extras rest_of part parts_of all_parts order before put_in sort_into sorted flat head_of
    file_of
file_is = refl

size_is : length short_case ≡ 36
unfolding short_case
size_is = refl

-- ---- the one reply

shortens : Shortens long_case short_case
shortens = subst (λ F. Shortens long_case F) file_is (written_shortens long_case bytes sound fits)

pub split_case : SplitCase
split_case out out' r says =
    record {
      written = λ room.
          let made : SplitSays long_case out (Ok 36) (short_case ++ drop 36 out) =
          (sound, fits, (short_case, shortens, sym size_is, room, refl)) in
          split_unique long_case out out' (short_case ++ drop 36 out) r (Ok 36) says made;
      short = λ less.
          let made : SplitSays long_case out (Err Short) out = (sound, fits, (short_case, shortens, omega (arith, size_is, less)), refl) in
          split_unique long_case out out' out r (Err Short) says made;
    }
