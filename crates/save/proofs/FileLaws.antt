-- The file of given numbers and lists (specs/Files.antt): reading its head and contents gives them back, and a sound file is the file of its
-- own numbers and lists. Each half of a 16-bit number is a digit to the base 256; the lists are parts whose ends are where the next
-- begins. Assumes nothing.
use mathlib.Core.Path.{◌≡◌, refl, sym, ap, ap₂, ◌∙◌}
use mathlib.Core.List.{List, [], ◌∷◌, ◌++◌, append_assoc, append-nil}
use Prim.Native.Nat.{ℕ, zero, suc, ◌+◌, ◌*◌, ◌/◌, ◌%◌, ◌≤◌}
use native.Mathlib.Omega.{arith}
use lib.ListN.{length, take, drop, length-append, length-drop, take-append-drop}
use lib.Seq.{take_all, take_at, drop_at, drop-cons, drop-drop}
use Rattle.entries.specs.Entries.{byte_at}
use Rattle.template.specs.Layout.{first_body, half_at, name_count, nonterminals, states, rule_count, schema_count, ending_count, schema_start}
use Rattle.template.specs.Layout.{ending_start, part_of, template_rules, schema_rules, ending_states}
use Rattle.template.specs.Order.{IsSound}
use Rattle.template.proofs.SoundLaws.{SoundFile, sound_file}
use Rattle.template.proofs.ListLaws.{part_is, rules_fit, schema_rules_fit, endings_fit, rules_count, schema_rules_count, endings_length}
use Rattle.save.specs.Files.{Bytes, head_of, file_of}
use Rattle.save.proofs.LayLaws.{head_length}

-- ---- what is read of the file

-- a list is a part of what it stands in
part_between : (before list behind : List ℕ) (at len : ℕ) → length before ≡ at → length list ≡ len
    → part_of (before ++ (list ++ behind)) at len ≡ list
part_between before list behind at len a l =
    let room : at + len ≤ length (before ++ (list ++ behind)) =
    rw (length-append before (list ++ behind), length-append list behind) (omega arith) in
    part_is (before ++ (list ++ behind)) at len room
    ∙ ap (take len) (drop_at before (list ++ behind) at a)
    ∙ take_at list behind len l

-- its numbers, its lists and its length
pub record ReadsAs (A N Q : ℕ) (rules schema endings f : List ℕ) : Type 0 where
  pub names_are : name_count f ≡ A
  pub nonterminals_are : nonterminals f ≡ N
  pub states_are : states f ≡ Q
  pub rules_counted : rule_count f ≡ length rules / 4
  pub schema_counted : schema_count f ≡ length schema / 4
  pub endings_counted : ending_count f ≡ length endings
  pub rules_are : template_rules f ≡ rules
  pub schema_are : schema_rules f ≡ schema
  pub endings_are : ending_states f ≡ endings
  pub size : length f ≡ first_body + length rules + length schema + length endings

halves : (n : ℕ) → n % 256 + 256 * (n / 256) ≡ n
halves n = omega arith

module _ (A N Q : ℕ) (rules schema endings : List ℕ) where
  abbrev head : List ℕ
  head = head_of A N Q (length rules / 4) (length schema / 4) (length endings)

  head_long : length head ≡ first_body
  head_long = head_length A N Q (length rules / 4) (length schema / 4) (length endings)

  pub file_length : length (file_of A N Q rules schema endings) ≡ first_body + length rules + length schema + length endings
  unfolding file_of
  file_length =
      rw (length-append head (rules ++ (schema ++ endings)), head_long, length-append rules (schema ++ endings))
      (rw (length-append schema endings) (omega arith))

  -- each number of 16 bits is made of its bytes
  pub file_rule_count : rule_count (file_of A N Q rules schema endings) ≡ length rules / 4
  unfolding file_of head_of half_at
  file_rule_count = halves (length rules / 4)

  pub file_schema_count : schema_count (file_of A N Q rules schema endings) ≡ length schema / 4
  unfolding file_of head_of half_at
  file_schema_count = halves (length schema / 4)

  pub file_ending_count : ending_count (file_of A N Q rules schema endings) ≡ length endings
  unfolding file_of head_of half_at
  file_ending_count = halves (length endings)

  -- the offsets
  pub file_first : half_at (file_of A N Q rules schema endings) 4 ≡ first_body
  unfolding file_of head_of half_at
  file_first = refl

  second : half_at (file_of A N Q rules schema endings) 8 ≡ first_body + 4 * (length rules / 4)
  unfolding file_of head_of half_at
  second = halves (first_body + 4 * (length rules / 4))

  third : half_at (file_of A N Q rules schema endings) 12 ≡ first_body + 4 * (length rules / 4) + 4 * (length schema / 4)
  unfolding file_of head_of half_at
  third = halves (first_body + 4 * (length rules / 4) + 4 * (length schema / 4))

  pub file_second : half_at (file_of A N Q rules schema endings) 8 ≡ schema_start (file_of A N Q rules schema endings)
  file_second = rw file_rule_count second

  pub file_third : half_at (file_of A N Q rules schema endings) 12 ≡ ending_start (file_of A N Q rules schema endings)
  file_third = rw (file_rule_count, file_schema_count) third

  pub file_spare : byte_at (file_of A N Q rules schema endings) 3 ≡ 0
  unfolding file_of head_of
  file_spare = refl

  -- the lists
  module _ (whole-rules : length rules % 4 ≡ 0) (whole-schema : length schema % 4 ≡ 0) where
    all_rules : length rules ≡ 4 * (length rules / 4)
    all_rules = omega arith

    all_schema : length schema ≡ 4 * (length schema / 4)
    all_schema = omega arith

    file_rules : template_rules (file_of A N Q rules schema endings) ≡ rules
    unfolding file_of
    file_rules =
        ap (λ n. part_of (file_of A N Q rules schema endings) first_body (4 * n)) file_rule_count
        ∙ part_between head rules (schema ++ endings) first_body (4 * (length rules / 4)) head_long all_rules

    file_schema : schema_rules (file_of A N Q rules schema endings) ≡ schema
    unfolding file_of
    file_schema =
        let start : length (head ++ rules) ≡ first_body + 4 * (length rules / 4) = rw (length-append, head_long) (omega arith) in
        ap (λ n. part_of (file_of A N Q rules schema endings) (first_body + 4 * n) (4 * schema_count (file_of A N Q rules schema endings)))
        file_rule_count
        ∙ ap (λ n. part_of (file_of A N Q rules schema endings) (first_body + 4 * (length rules / 4)) (4 * n)) file_schema_count
        ∙ ap (λ f. part_of f (first_body + 4 * (length rules / 4)) (4 * (length schema / 4))) (sym (append_assoc head rules (schema ++ endings)))
        ∙ part_between (head ++ rules) schema endings (first_body + 4 * (length rules / 4)) (4 * (length schema / 4)) start all_schema

    file_endings : ending_states (file_of A N Q rules schema endings) ≡ endings
    unfolding file_of
    file_endings =
        let at = first_body + 4 * (length rules / 4) + 4 * (length schema / 4) in
        let start : length (head ++ rules ++ schema) ≡ at = rw (length-append, length-append, head_long) (omega arith) in
        let same : file_of A N Q rules schema endings ≡ head ++ rules ++ schema ++ (endings ++ []) =
        rw (append-nil endings, append_assoc (head ++ rules) schema endings) (sym (append_assoc head rules (schema ++ endings))) in
        ap
        (λ n. part_of (file_of A N Q rules schema endings) (first_body + 4 * n + 4 * schema_count (file_of A N Q rules schema endings))
        (ending_count (file_of A N Q rules schema endings))) file_rule_count
        ∙ ap
        (λ n. part_of (file_of A N Q rules schema endings) (first_body + 4 * (length rules / 4) + 4 * n)
        (ending_count (file_of A N Q rules schema endings))) file_schema_count
        ∙ ap (λ n. part_of (file_of A N Q rules schema endings) at n) file_ending_count
        ∙ ap (λ f. part_of f at (length endings)) same
        ∙ part_between (head ++ rules ++ schema) endings [] at (length endings) start refl

    pub file_numbers : ReadsAs A N Q rules schema endings (file_of A N Q rules schema endings)
    unfolding file_of head_of
    file_numbers =
        record {
          names_are = refl;
          nonterminals_are = refl;
          states_are = refl;
          rules_counted = file_rule_count;
          schema_counted = file_schema_count;
          endings_counted = file_ending_count;
          rules_are = file_rules;
          schema_are = file_schema;
          endings_are = file_endings;
          size = file_length;
        }

-- ---- a sound file

-- n bytes of a list from a place on
abbrev bytes_from : ℕ → ℕ → List ℕ → List ℕ
bytes_from zero at f = []
bytes_from (suc n) at f = byte_at f at ∷ bytes_from n (suc at) f

bytes_behind : (n at : ℕ) (f : List ℕ) → at + n ≤ length f → drop at f ≡ bytes_from n at f ++ drop (at + n) f
bytes_behind zero at f h = let e : at + zero ≡ at = omega arith in rw e
bytes_behind (suc n) at f h =
    let e : at + suc n ≡ suc at + n = omega arith in
    rw e (drop-cons f at 0 (omega arith) ∙ ap (λ (r : List ℕ). byte_at f at ∷ r) (bytes_behind n (suc at) f (omega arith)))

-- the two bytes of a number of 16 bits
half_low : (f : List ℕ) (p n : ℕ) → Bytes f → half_at f p ≡ n → byte_at f p ≡ n % 256
unfolding half_at
half_low f p n b e = omega (arith, b p)

half_high : (f : List ℕ) (p n : ℕ) → Bytes f → half_at f p ≡ n → byte_at f (p + 1) ≡ n / 256
unfolding half_at
half_high f p n b e = omega (arith, b p)

module _ (f : List ℕ) (bytes : Bytes f) (s : SoundFile f) where
  head_is : bytes_from first_body 0 f ≡ head_of (name_count f) (nonterminals f) (states f) (rule_count f) (schema_count f) (ending_count f)
  unfolding head_of
  head_is =
      rw (s.spare_zero, half_low f 4 16 bytes s.rules_offset, half_high f 4 16 bytes s.rules_offset)
      (rw (half_low f 6 (rule_count f) bytes refl, half_high f 6 (rule_count f) bytes refl)
      (rw (half_low f 8 (schema_start f) bytes s.schema_rules_offset, half_high f 8 (schema_start f) bytes s.schema_rules_offset)
      (rw (half_low f 10 (schema_count f) bytes refl, half_high f 10 (schema_count f) bytes refl)
      (rw (half_low f 12 (ending_start f) bytes s.endings_offset, half_high f 12 (ending_start f) bytes s.endings_offset)
      (rw (half_low f 14 (ending_count f) bytes refl, half_high f 14 (ending_count f) bytes refl))))))

  lists_are : drop first_body f ≡ template_rules f ++ (schema_rules f ++ ending_states f)
  lists_are =
      let third : ending_states f ≡ drop (ending_start f) f =
      part_is f (ending_start f) (ending_count f) (endings_fit f s)
      ∙ take_all (ending_count f) (drop (ending_start f) f) (rw length-drop (omega arith)) in
      let second : drop (schema_start f) f ≡ schema_rules f ++ ending_states f =
      rw (part_is f (schema_start f) (4 * schema_count f) (schema_rules_fit f s), third, ← drop-drop (4 * schema_count f) (schema_start f) f)
      (sym (take-append-drop (4 * schema_count f) (drop (schema_start f) f))) in
      rw (part_is f first_body (4 * rule_count f) (rules_fit f s), ← second, ← drop-drop (4 * rule_count f) first_body f)
      (sym (take-append-drop (4 * rule_count f) (drop first_body f)))

  pub sound_is : f ≡ file_of (name_count f) (nonterminals f) (states f) (template_rules f) (schema_rules f) (ending_states f)
  unfolding file_of
  sound_is =
      rw (rules_count f s, schema_rules_count f s, endings_length f s)
      (bytes_behind first_body 0 f (omega arith) ∙ ap₂ ◌++◌ head_is lists_are)

pub sound_is_file : (f : List ℕ) → Bytes f → IsSound f
    → f ≡ file_of (name_count f) (nonterminals f) (states f) (template_rules f) (schema_rules f) (ending_states f)
sound_is_file f bytes s = sound_is f bytes (sound_file f s)

-- two sound files of the same numbers and lists are one
pub sound_files_same : (f g : List ℕ) → Bytes f → Bytes g → IsSound f → IsSound g → name_count f ≡ name_count g
    → nonterminals f ≡ nonterminals g → states f ≡ states g → template_rules f ≡ template_rules g → schema_rules f ≡ schema_rules g
    → ending_states f ≡ ending_states g → f ≡ g
sound_files_same f g bf bg sf sg names nonterms sts rules schema endings =
    sound_is_file f bf sf ∙ rw (names, nonterms, sts, rules, schema, endings) (sym (sound_is_file g bg sg))
