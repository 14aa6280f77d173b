-- One file for given numbers and entries: a sound file is its numbers and lists (`sound_is_file`), and a list that ascends is given by its
-- entries (`ascending_same`). Beside it: a laid file consists of bytes, and ascending ending states are no more than there are states.
-- Assumes nothing.
use mathlib.Core.Path.{◌≡◌, ap, ◌∙◌}
use mathlib.Core.Bool.{true, false≢true}
use mathlib.Core.List.{List, [], ◌∷◌, ◌++◌}
use mathlib.Core.Logic.{⊎_elim}
use Prim.Native.Nat.{ℕ, zero, suc, ◌+◌, ◌*◌, ◌/◌, ◌%◌, ◌≤◌, ◌<◌}
use native.Mathlib.Nat.{one-mul}
use native.Mathlib.Omega.{arith}
use borrow.Author.Tests.{ltb-true}
use lib.Dec.{ltb, eqb}
use Rattle.std.proofs.lemmas.Bool.{and_parts, or_cases}
use lib.ListN.{length}
use lib.Seq.{drop-cons}
use Rattle.entries.specs.Entries.{byte_at, width, precedes, field_tests}
use Rattle.entries.specs.declared.Body.TheVariants.{Endings}
use Rattle.template.specs.Layout.{first_body, most_rules, most_schema_rules, name_count, nonterminals, states, template_rules, schema_rules}
use Rattle.template.specs.Layout.{ending_states}
use Rattle.template.specs.Order.{IsSound}
use Rattle.entries.proofs.OrderLaws.{ok_holds}
use Rattle.template.proofs.SoundLaws.{sound_file}
use Rattle.entries.proofs.EntryLaws.{entry, EntriesAscend}
use Rattle.save.specs.Entries.{SameEntries}
use Rattle.save.specs.Files.{Bytes, head_of, file_of}
use Rattle.save.proofs.FileLaws.{sound_files_same}
use Rattle.save.proofs.HoldLaws.{BodyHolds, sound_holds, entry_numbered}
use Rattle.save.proofs.AscendLaws.{ascending_same}

-- ---- one file

pub sound_entries_same : (f g : List ℕ) → Bytes f → Bytes g → IsSound f → IsSound g → name_count f ≡ name_count g
    → nonterminals f ≡ nonterminals g → states f ≡ states g → SameEntries 4 (template_rules f) (template_rules g)
    → SameEntries 4 (schema_rules f) (schema_rules g) → SameEntries 1 (ending_states f) (ending_states g) → f ≡ g
unfolding width
sound_entries_same f g bf bg sf sg names nonterms sts rules schema endings =
    let hf = sound_holds f (sound_file f sf) in
    let hg = sound_holds g (sound_file g sg) in
    sound_files_same f g bf bg sf sg names nonterms sts
    (ascending_same 4 (length (template_rules f) / 4) (length (template_rules g) / 4) (template_rules f) (template_rules g) (omega arith)
    hf.rules_hold.whole hg.rules_hold.whole hf.rules_hold.ascending hg.rules_hold.ascending rules)
    (ascending_same 4 (length (schema_rules f) / 4) (length (schema_rules g) / 4) (schema_rules f) (schema_rules g) (omega arith)
    hf.schema_holds.whole hg.schema_holds.whole hf.schema_holds.ascending hg.schema_holds.ascending schema)
    (ascending_same 1 (length (ending_states f)) (length (ending_states g)) (ending_states f) (ending_states g) (omega arith)
    hf.endings_hold.whole hg.endings_hold.whole hf.endings_hold.ascending hg.endings_hold.ascending endings)

-- ---- bytes

-- one by one
abbrev EachByte : List ℕ → Type 0
EachByte [] = Unit {0}
EachByte (x ∷ xs) = (x < 256) × EachByte xs

each_bytes : (xs : List ℕ) → EachByte xs → Bytes xs
each_bytes [] e i = omega arith
each_bytes (x ∷ xs) (h, e) zero = h
each_bytes (x ∷ xs) (h, e) (suc i) = each_bytes xs e i

pub bytes_append : (xs ys : List ℕ) → Bytes xs → Bytes ys → Bytes (xs ++ ys)
bytes_append [] ys a b i = b i
bytes_append (x ∷ xs) ys a b zero = a 0
bytes_append (x ∷ xs) ys a b (suc i) = bytes_append xs ys (λ k. a (suc k)) b i

low_byte : (n : ℕ) → n % 256 < 256
low_byte n = omega arith

high_byte : (n : ℕ) → n < 65536 → n / 256 < 256
high_byte n h = omega arith

module _ (A N Q : ℕ) (a : A < 256) (n : N < 256) (q : Q < 256) where
  head_bytes : (rules schema endings : ℕ) → rules ≤ most_rules → schema ≤ most_schema_rules → endings < 65536
      → Bytes (head_of A N Q rules schema endings)
  unfolding head_of
  head_bytes rules schema endings h k l =
      let second = first_body + 4 * rules in
      let third = first_body + 4 * rules + 4 * schema in
      each_bytes (head_of A N Q rules schema endings) (
        a,
        (
          n,
          (
            q,
            (
              omega arith,
              (
                low_byte first_body,
                (
                  high_byte first_body (omega arith),
                  (
                    low_byte rules,
                    (
                      high_byte rules (omega arith),
                      (
                        low_byte second,
                        (
                          high_byte second (omega arith),
                          (
                            low_byte schema,
                            (
                              high_byte schema (omega arith),
                              (
                                low_byte third,
                                (
                                  high_byte third (omega arith),
                                  (low_byte endings, (high_byte endings l, tt)),
                                ),
                              ),
                            ),
                          ),
                        ),
                      ),
                    ),
                  ),
                ),
              ),
            ),
          ),
        ),
      )

  pub file_bytes : (rules schema endings : List ℕ) → length rules / 4 ≤ most_rules → length schema / 4 ≤ most_schema_rules
      → length endings < 65536 → Bytes rules → Bytes schema → Bytes endings → Bytes (file_of A N Q rules schema endings)
  unfolding file_of
  file_bytes rules schema endings h k l b c d =
      bytes_append (head_of A N Q (length rules / 4) (length schema / 4) (length endings)) (rules ++ (schema ++ endings))
      (head_bytes (length rules / 4) (length schema / 4) (length endings) h k l)
      (bytes_append rules (schema ++ endings) b (bytes_append schema endings c d))

-- ---- ending states

one_precedes : (x y : ℕ) → precedes (x ∷ []) (y ∷ []) ≡ true → x < y
unfolding precedes
one_precedes x y e =
    ⊎_elim (λ l. ltb-true x y l) (λ r. absurd (false≢true (and_parts (eqb x y) _ r).1)) (or_cases (ltb x y) _ e)

-- state i of an ascending list is i at least
module _ (n : ℕ) (list : List ℕ) (whole : length list ≡ n) (ascent : EntriesAscend 1 n list) where
  state_entry : (i : ℕ) → i < n → entry 1 list i ≡ byte_at list i ∷ []
  state_entry i h = rw (one-mul i, drop-cons list i 0 (omega arith))

  state_above : (i : ℕ) → suc i < n → byte_at list i < byte_at list (suc i)
  state_above i h =
      one_precedes (byte_at list i) (byte_at list (suc i))
      (rw (← state_entry i (omega arith), ← state_entry (suc i) h) (ascent i h))

  climbs : (i : ℕ) → i < n → i ≤ byte_at list i
  climbs zero h = omega arith
  climbs (suc i) h = omega (arith, climbs i (omega arith), state_above i h)

-- so there are no more of them than states
pub endings_few : (A N Q n : ℕ) (list : List ℕ) → BodyHolds Endings A N Q n list → n ≤ Q
unfolding width field_tests
endings_few A N Q zero list holds = omega arith
endings_few A N Q (suc n) list holds =
    let whole : length list ≡ suc n = holds.whole ∙ one-mul (suc n) in
    let last = holds.fields_pass (entry 1 list n) (entry_numbered 1 (suc n) list holds.whole (omega arith) n (omega arith)) in
    let is = state_entry (suc n) list whole holds.ascending n (omega arith) in
    let below : byte_at (entry 1 list n) 0 < Q =
    ltb-true (byte_at (entry 1 list n) 0) Q (ok_holds (field_tests Endings A N Q (entry 1 list n) 0) last).0 in
    omega (arith, climbs (suc n) list whole holds.ascending n (omega arith), ap (λ (e : List ℕ). byte_at e 0) is)
