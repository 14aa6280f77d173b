-- The written file: the numbers of the file of long rules, with the new nonterminals, the sorted parts, and the other two lists as they
-- were. It is sound and has the parts for its template rules (`written_shortens`): no two parts are equal, so sorted they ascend; each
-- passes its field tests (HoldLaws); and the tests of the other two lists do not speak of nonterminals, so they still hold. Assumes nothing.
use mathlib.Core.Path.{◌≡◌, refl, ◌∙◌}
use mathlib.Core.List.{List, [], ◌∷◌, Memᴰ}
use mathlib.Core.Logic.{◌↔◌}
use Prim.Native.Nat.{ℕ, ◌+◌, ◌*◌, ◌/◌, ◌≤◌}
use native.Mathlib.Nat.{one-mul}
use native.Mathlib.Decide.{dec_lt}
use native.Mathlib.Omega.{arith}
use lib.ListN.{length, get_or-eq_default}
use Rattle.rows.specs.Tables.{Ascending, flat, sorted}
use Rattle.rows.proofs.TableLaws.{Wide}
use Rattle.rows.proofs.PutLaws.{sorted_length, sorted_keeps, sorted_only, sorted_wide}
use Rattle.rows.proofs.SortLaws.{sorted_ascends}
use Rattle.entries.specs.Entries.{rule_symbols, width, field_tests}
use Rattle.entries.specs.declared.Body.TheVariants.{Templates, Schema, Endings}
use Rattle.template.specs.Layout.{first_body, name_count, nonterminals, states, schema_count, ending_count, schema_start_of, ending_start_of}
use Rattle.template.specs.Layout.{part_of, schema_rules_of, ending_states_of}
use Rattle.template.specs.Order.{SoundOf}
use Rattle.template.proofs.SoundLaws.{SoundFileOf, sound_file_of}
use Rattle.template.proofs.ListLaws.{part_at, schema_rules_fit, endings_fit, schema_rules_length, endings_length}
use Rattle.template.proofs.ListLaws as lists
use Rattle.save.specs.Entries.{Entry}
use Rattle.save.specs.Files.{Bytes, file_of}
use Rattle.save.proofs.FileLaws.{ReadsAs, file_numbers}
use Rattle.save.proofs.HoldLaws.{BodyHolds, FileHolds, body_holds, file_is_sound}
use Rattle.save.proofs.RowLaws.{flat_whole, flat_entries, flat_ascends}
use Rattle.save.proofs.UniqueLaws.{bytes_append, file_bytes}
use Rattle.long.specs.Rules.{long_symbols, long_count, PartsFit, IsPart, all_parts}
use Rattle.long.specs.Splits.{long_rules, all_extras, Shortens}
use Rattle.long.proofs.BelowLaws.{long-count}
use Rattle.long.proofs.PartLaws.{part_length}
use Rattle.long.proofs.HoldLaws.{part_passes, part_byte}
use Rattle.long.proofs.CountLaws.{all_parts_length, all-parts}
use Rattle.long.proofs.DistinctLaws.{all_parts_distinct}
use Rattle.long.proofs.OrderedLaws.{no_repeats}

-- ---- lists

flat_bytes : (rows : List (List ℕ)) → ((e : List ℕ) → Memᴰ e rows → Bytes e) → Bytes (flat rows)
unfolding flat
flat_bytes [] each i = omega arith
flat_bytes (x ∷ xs) each i =
    bytes_append x (flat xs) (each x (Memᴰ.head refl)) (flat_bytes xs (λ e m. each e (Memᴰ.tail m))) i

-- a part of a file of bytes that ends within it
part_bytes : (f : List ℕ) (at len : ℕ) → at + len ≤ length f → Bytes f → Bytes (part_of f at len)
part_bytes f at len h given i =
    elim (dec_lt i len) [
      | yes k ↦ rw (part_at f at len i h k) (given (at + i))
      | no k ↦ rw (get_or-eq_default (part_of f at len) 0 {n = i} (omega (arith, lists.part_length f at len h))) (omega arith)
    ]

-- the tests of the schema and of the ending states, whatever nonterminals there are
schema_any : (A N M Q n : ℕ) (list : List ℕ) → BodyHolds Schema A N Q n list → BodyHolds Schema A M Q n list
unfolding field_tests
schema_any A N M Q n list holds =
    record { whole = holds.whole; fields_pass = holds.fields_pass; ascending = holds.ascending }

endings_any : (A N M Q n : ℕ) (list : List ℕ) → BodyHolds Endings A N Q n list → BodyHolds Endings A M Q n list
unfolding field_tests
endings_any A N M Q n list holds =
    record { whole = holds.whole; fields_pass = holds.fields_pass; ascending = holds.ascending }

-- ---- the written file

module _ (f : List ℕ) (given : Bytes f) (sound : SoundOf long_symbols f) (fits : PartsFit (nonterminals f) (long_rules f)) where
  abbrev rules : List ℕ
  rules = long_rules f

  abbrev N : ℕ
  N = nonterminals f

  abbrev all : List (List ℕ)
  all = all_parts N rules (long_count rules)

  abbrev pub written_file : List ℕ
  written_file =
      file_of (name_count f) (nonterminals f + all_extras f) (states f)
      (flat (sorted (all_parts (nonterminals f) (long_rules f) (long_count (long_rules f))))) (schema_rules_of long_symbols f)
      (ending_states_of long_symbols f)

  s : SoundFileOf long_symbols f
  s = sound_file_of long_symbols f sound

  -- the sorted parts
  all_wide : Wide 4 all
  all_wide e m = let (i, t, h, k, d) = (all-parts N rules e).0 m in rw d (part_length N rules i t)

  rows_wide : Wide 4 (sorted all)
  rows_wide = sorted_wide 4 all all_wide

  rows_ascend : Ascending (sorted all)
  rows_ascend = sorted_ascends all (no_repeats (all_parts_distinct f s (long_count rules) (omega (arith, long-count f s))))

  rows_count : length (sorted all) ≡ long_count rules + all_extras f
  rows_count = sorted_length all ∙ all_parts_length N rules (long_count rules)

  pub rows_length : length (flat (sorted all)) ≡ 4 * (long_count rules + all_extras f)
  rows_length = rw (← rows_count) (flat_whole 4 (sorted all) rows_wide)

  row_part : (e : List ℕ) → Memᴰ e (sorted all) ↔ IsPart N rules e
  row_part e = (λ m. (all-parts N rules e).0 (sorted_only all e m), λ p. sorted_keeps all e ((all-parts N rules e).1 p))

  entry_part : (e : List ℕ) → Entry 4 (flat (sorted all)) e ↔ IsPart N rules e
  entry_part e =
      let rows = flat_entries 4 (sorted all) rows_wide (omega arith) e in
      (λ m. (row_part e).0 (rows.0 m), λ p. rows.1 ((row_part e).1 p))

  -- the three lists hold
  rules_hold : BodyHolds (Templates rule_symbols) (name_count f) (N + all_extras f) (states f) (length (flat (sorted all)) / 4)
      (flat (sorted all))
  unfolding width
  rules_hold =
      let many : length (flat (sorted all)) / 4 ≡ length (sorted all) = omega (arith, rows_length, rows_count) in
      record {
        whole = omega (arith, rows_length);
        fields_pass = λ e m.
            let (i, t, h, k, d) = (entry_part e).0 m in
            rw d (part_passes f s i t (omega (arith, long-count f s)) k (states f));
        ascending = rw many (flat_ascends 4 (sorted all) rows_wide rows_ascend);
      }

  schema_holds : BodyHolds Schema (name_count f) (N + all_extras f) (states f) (length (schema_rules_of long_symbols f) / 4)
      (schema_rules_of long_symbols f)
  unfolding width
  schema_holds =
      let many : length (schema_rules_of long_symbols f) / 4 ≡ schema_count f = omega (arith, schema_rules_length f s) in
      rw many
      (schema_any (name_count f) N (N + all_extras f) (states f) (schema_count f) (schema_rules_of long_symbols f)
      (body_holds Schema f (schema_start_of long_symbols f) (schema_count f) (schema_rules_fit f s) s.schema_rules_pass))

  endings_hold : BodyHolds Endings (name_count f) (N + all_extras f) (states f) (length (ending_states_of long_symbols f))
      (ending_states_of long_symbols f)
  unfolding width
  endings_hold =
      rw (endings_length f s)
      (endings_any (name_count f) N (N + all_extras f) (states f) (ending_count f) (ending_states_of long_symbols f)
      (rw (one-mul (ending_count f)) at
      (body_holds Endings f (ending_start_of long_symbols f) (ending_count f) (omega (arith, endings_fit f s)) s.endings_pass)))

  file_holds : FileHolds (name_count f) (N + all_extras f) (states f) (flat (sorted all)) (schema_rules_of long_symbols f)
      (ending_states_of long_symbols f)
  file_holds =
      record {
        some_name = s.some_name;
        few_names = s.few_names;
        some_nonterminal = omega (arith, s.some_nonterminal);
        few_nonterminals = fits.0;
        some_state = s.some_state;
        few_states = s.few_states;
        few_rules = omega (arith, rows_length, fits.1);
        few_schema_rules = omega (arith, schema_rules_length f s, s.few_schema_rules);
        few_endings = rw (endings_length f s) s.few_endings;
        rules_hold = rules_hold;
        schema_holds = schema_holds;
        endings_hold = endings_hold;
      }

  -- it consists of bytes
  pub rows_bytes : Bytes (flat (sorted all))
  rows_bytes =
      flat_bytes (sorted all)
      (λ e m. let (i, t, h, k, d) = (row_part e).0 m in rw d (part_byte f s i t (omega (arith, long-count f s)) k fits.0))

  written_bytes : Bytes written_file
  written_bytes =
      file_bytes (name_count f) (N + all_extras f) (states f) (omega (arith, s.few_names)) (omega (arith, fits.0))
      (omega (arith, s.few_states)) (flat (sorted all)) (schema_rules_of long_symbols f) (ending_states_of long_symbols f)
      file_holds.few_rules file_holds.few_schema_rules (omega (arith, file_holds.few_endings, s.few_states)) rows_bytes
      (part_bytes f (schema_start_of long_symbols f) (4 * schema_count f) (schema_rules_fit f s) given)
      (part_bytes f (ending_start_of long_symbols f) (ending_count f) (endings_fit f s) given)

  written_reads : ReadsAs (name_count f) (N + all_extras f) (states f) (flat (sorted all)) (schema_rules_of long_symbols f)
      (ending_states_of long_symbols f) written_file
  written_reads =
      file_numbers (name_count f) (N + all_extras f) (states f) (flat (sorted all)) (schema_rules_of long_symbols f)
      (ending_states_of long_symbols f) (omega (arith, rows_length)) (omega (arith, schema_rules_length f s))

  pub written_shortens : Shortens f written_file
  written_shortens =
      record {
        bytes = written_bytes;
        sound =
            (file_is_sound (name_count f) (N + all_extras f) (states f) (flat (sorted all)) (schema_rules_of long_symbols f)
            (ending_states_of long_symbols f)).1 file_holds;
        names_same = written_reads.names_are;
        nonterminals_are = written_reads.nonterminals_are;
        states_same = written_reads.states_are;
        rules_are = λ e. rw written_reads.rules_are (entry_part e);
        schema_same = written_reads.schema_are;
        endings_same = written_reads.endings_are;
      }

  pub written_length : length written_file ≡ first_body + 4 * (long_count (long_rules f) + all_extras f) + 4 * schema_count f + ending_count f
  written_length = omega (arith, written_reads.size, rows_length, schema_rules_length f s, endings_length f s)
