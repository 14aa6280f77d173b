-- Which files are sound, in words of their lists (`file_is_sound`): the numbers are in range, the counts within their limits, every entry of
-- a list by itself passes its field tests, and the entries of each list ascend. A body of a file is a part of it; its tests move to the
-- part's entries and back (`body_holds`). Assumes nothing.
use mathlib.Core.Path.{◌≡◌, refl, sym, ap, ◌∙◌, subst}
use mathlib.Core.Bool.{true}
use mathlib.Core.List.{List}
use mathlib.Core.Logic.{◌↔◌}
use Prim.Native.Nat.{ℕ, zero, suc, ◌+◌, ◌*◌, ◌/◌, ◌%◌, ◌≤◌, ◌<◌}
use native.Mathlib.Nat.{mul_comm, mul-le-mul_left, zero-add, one-mul}
use native.Mathlib.Decide.{dec_lt}
use native.Mathlib.Omega.{arith}
use lib.ListN.{length, take, drop}
use lib.Seq.{get_or-take, get_or-drop}
use Rattle.words.specs.Tags.{most_names}
use Rattle.hedge.specs.Schema.{most_states}
use Rattle.entries.specs.Tests.{first_fault}
use Rattle.entries.specs.Entries.{rule_symbols, byte_at, field_tests, width, ascends, body_tests}
use Rattle.std.specs.Prelude.{Result, Ok, Err}
use Rattle.entries.specs.Tests.{Tested, fault_at}
use Rattle.entries.specs.declared.Body.{Body}
use Rattle.entries.specs.declared.Body.TheVariants.{Templates, Schema, Endings}
use Rattle.template.specs.Layout.{first_body, most_nonterminals, most_rules, most_schema_rules, name_count, nonterminals, states, rule_count}
use Rattle.template.specs.Layout.{schema_count, ending_count, schema_start, ending_start, part_of, template_rules, schema_rules, ending_states}
use Rattle.template.specs.Order.{body, IsSound}
use Rattle.template.proofs.SoundLaws.{SoundFile, sound_file, file_sound}
use Rattle.entries.proofs.EntryLaws.{entry, EntriesAscend, body_fields}
use Rattle.template.proofs.ListLaws.{part_entry, part_length, rules_fit, schema_rules_fit, rules_count, schema_rules_count, endings_length}
use Rattle.template.proofs.AscendingLaws.{body_ascending}
use Rattle.save.specs.Entries.{Entry}
use Rattle.save.specs.Files.{file_of}
use Rattle.save.proofs.FileLaws.{file_numbers, file_length, file_rule_count, file_schema_count, file_ending_count}
use Rattle.save.proofs.FileLaws.{file_first, file_second, file_third, file_spare}
use Rattle.save.proofs.MoveLaws.{fields_moved, entry_passes, body_passes, first_ascends, next_ascends}

-- ---- entries by their numbers

-- where a list has n entries of w bytes, entry i is one of them exactly where i is below n
module _ (w n : ℕ) (list : List ℕ) (whole : length list ≡ w * n) where
  pub entry_below : (i : ℕ) → i * w < length list → i < n
  entry_below i h = at (dec_lt i n)
    where
      at : Dec (i < n) → i < n
      at (yes l) = l
      at (no l) = absurd (let k : w * n ≤ w * i = mul-le-mul_left w (omega arith) in omega (arith, mul_comm i w))

  pub below_entry : 0 < w → (i : ℕ) → i < n → i * w < length list
  below_entry positive i h = let k : w * suc i ≤ w * n = mul-le-mul_left w h in omega (arith, mul_comm i w)

  -- entry i, counted by template's places
  pub entry_numbered : 0 < w → (i : ℕ) → i < n → Entry w list (entry w list i)
  entry_numbered positive i h = (i, below_entry positive i h, ap (λ (k : ℕ). take w (drop k list)) (mul_comm w i))

  pub numbered_entry : (e : List ℕ) → Entry w list e → (i : ℕ) × (i < n) × (e ≡ entry w list i)
  numbered_entry e (i, h, is) = (i, entry_below i h, is ∙ ap (λ (k : ℕ). take w (drop k list)) (mul_comm i w))

pub entry_wide : (b : Body) → 0 < width b
unfolding width
entry_wide (Templates symbols) = omega arith
entry_wide Schema = omega arith
entry_wide Endings = omega arith

-- ---- a body by itself

-- n entries, each of which passes its field tests, and which ascend
pub record BodyHolds (b : Body) (A N Q n : ℕ) (list : List ℕ) : Type 0 where
  pub whole : length list ≡ width b * n
  pub fields_pass : (e : List ℕ) → Entry (width b) list e → first_fault (field_tests b A N Q e 0) ≡ Ok tt
  pub ascending : EntriesAscend (width b) n list

-- the bytes of an entry taken out of a list are the list's
entry_byte : (w at : ℕ) (f : List ℕ) (j : ℕ) → j < w → byte_at f (at + j) ≡ byte_at (take w (drop at f)) (0 + j)
entry_byte w at f j h = rw (zero-add j, get_or-take w (drop at f) j 0 h, get_or-drop at f j 0)

module _ (b : Body) (A N Q : ℕ) (f : List ℕ) (first n : ℕ) (fit : first + width b * n ≤ length f) where
  abbrev list : List ℕ
  list = part_of f first (width b * n)

  list_whole : length list ≡ width b * n
  list_whole = part_length f first (width b * n) fit

  entry_is : (i : ℕ) → i < n → entry (width b) list i ≡ take (width b) (drop (first + width b * i) f)
  entry_is i h = part_entry f first (width b * n) (width b) i fit (mul-le-mul_left (width b) h)

  -- from the list to the file
  pub holds_body : BodyHolds b A N Q n list → first_fault (body_tests b A N Q f first first n) ≡ Ok tt
  holds_body holds =
      body_passes b A N Q f first first n (λ i h. entry_passes b A N Q f first (first + width b * i) (fields i h) (ascent i h))
    where
      fields : (i : ℕ) → i < n → first_fault (field_tests b A N Q f (first + width b * i)) ≡ Ok tt
      fields i h =
          fields_moved A N Q (take (width b) (drop (first + width b * i) f)) f 0 (first + width b * i) b
          (λ j k. sym (entry_byte (width b) (first + width b * i) f j k))
          (subst (λ (e : List ℕ). first_fault (field_tests b A N Q e 0) ≡ Ok tt) (entry_is i h)
          (holds.fields_pass (entry (width b) list i) (entry_numbered (width b) n list list_whole (entry_wide b) i h)))

      ascent : (i : ℕ) → i < n → ascends (width b) f first (first + width b * i) ≡ true
      ascent zero h = first_ascends b A N Q f first
      ascent (suc i) h =
          next_ascends b A N Q f first i
          (rw (← entry_is i (omega arith), ← entry_is (suc i) h) (holds.ascending i h))

-- from the file, by its own numbers, to the list
module _ (b : Body) (f : List ℕ) (first n : ℕ) (fit : first + width b * n ≤ length f) where
  pub body_holds : first_fault (body b f first n) ≡ Ok tt
      → BodyHolds b (name_count f) (nonterminals f) (states f) n (part_of f first (width b * n))
  body_holds passed =
      record {
        whole = list_whole b (name_count f) (nonterminals f) (states f) f first n fit;
        fields_pass = λ e m. fields e (numbered_entry (width b) n (part_of f first (width b * n)) whole e m);
        ascending = body_ascending b f first n passed fit;
      }
    where
      whole : length (part_of f first (width b * n)) ≡ width b * n
      whole = part_length f first (width b * n) fit

      fields : (e : List ℕ) → (i : ℕ) × (i < n) × (e ≡ entry (width b) (part_of f first (width b * n)) i)
          → first_fault (field_tests b (name_count f) (nonterminals f) (states f) e 0) ≡ Ok tt
      fields e (i, h, is) =
          subst (λ (x : List ℕ). first_fault (field_tests b (name_count f) (nonterminals f) (states f) x 0) ≡ Ok tt)
          (sym (is ∙ entry_is b (name_count f) (nonterminals f) (states f) f first n fit i h))
          (fields_moved (name_count f) (nonterminals f) (states f) f (take (width b) (drop (first + width b * i) f)) (first + width b * i) 0 b
          (entry_byte (width b) (first + width b * i) f)
          (body_fields b (name_count f) (nonterminals f) (states f) f first n passed i h))

-- ---- a file by its lists

-- the numbers in range, the counts within their limits, and three bodies that hold
pub record FileHolds (A N Q : ℕ) (rules schema endings : List ℕ) : Type 0 where
  pub some_name : 1 ≤ A
  pub few_names : A ≤ most_names
  pub some_nonterminal : 1 ≤ N
  pub few_nonterminals : N ≤ most_nonterminals
  pub some_state : 1 ≤ Q
  pub few_states : Q ≤ most_states
  pub few_rules : length rules / 4 ≤ most_rules
  pub few_schema_rules : length schema / 4 ≤ most_schema_rules
  pub few_endings : length endings ≤ Q
  pub rules_hold : BodyHolds (Templates rule_symbols) A N Q (length rules / 4) rules
  pub schema_holds : BodyHolds Schema A N Q (length schema / 4) schema
  pub endings_hold : BodyHolds Endings A N Q (length endings) endings

body_same : (b : Body) (A A' N N' Q Q' n n' : ℕ) (l l' : List ℕ) → A ≡ A' → N ≡ N' → Q ≡ Q' → n ≡ n' → l ≡ l'
    → BodyHolds b A N Q n l → BodyHolds b A' N' Q' n' l'
body_same b A A' N N' Q Q' n n' l l' a m q k e h = rw (← a, ← m, ← q, ← k, ← e) h

holds_same : (A A' N N' Q Q' : ℕ) (rules rules' schema schema' endings endings' : List ℕ) → A ≡ A' → N ≡ N' → Q ≡ Q' → rules ≡ rules'
    → schema ≡ schema' → endings ≡ endings' → FileHolds A N Q rules schema endings → FileHolds A' N' Q' rules' schema' endings'
holds_same A A' N N' Q Q' rules rules' schema schema' endings endings' a m q t u v h = rw (← a, ← m, ← q, ← t, ← u, ← v) h

-- a sound file's lists hold
module _ (f : List ℕ) (s : SoundFile f) where
  pub sound_holds : FileHolds (name_count f) (nonterminals f) (states f) (template_rules f) (schema_rules f) (ending_states f)
  unfolding width
  sound_holds =
      record {
        some_name = s.some_name;
        few_names = s.few_names;
        some_nonterminal = s.some_nonterminal;
        few_nonterminals = s.few_nonterminals;
        some_state = s.some_state;
        few_states = s.few_states;
        few_rules = rw (rules_count f s) s.few_rules;
        few_schema_rules = rw (schema_rules_count f s) s.few_schema_rules;
        few_endings = rw (endings_length f s) s.few_endings;
        rules_hold =
            rw (rules_count f s) (body_holds (Templates rule_symbols) f first_body (rule_count f) (rules_fit f s) s.rules_pass);
        schema_holds =
            rw (schema_rules_count f s)
            (body_holds Schema f (schema_start f) (schema_count f) (schema_rules_fit f s) s.schema_rules_pass);
        endings_hold =
            rw (endings_length f s)
            (body_same Endings (name_count f) (name_count f) (nonterminals f) (nonterminals f) (states f) (states f) (ending_count f)
            (ending_count f) (part_of f (ending_start f) (1 * ending_count f)) (ending_states f) refl refl refl refl
            (ap (part_of f (ending_start f)) (one-mul (ending_count f)))
            (body_holds Endings f (ending_start f) (ending_count f) (omega arith) s.endings_pass));
      }

-- a laid file is sound exactly where its lists hold
module _ (A N Q : ℕ) (rules schema endings : List ℕ) where
  abbrev file : List ℕ
  file = file_of A N Q rules schema endings

  holds_sound : FileHolds A N Q rules schema endings → IsSound file
  unfolding width
  holds_sound holds =
      let whole-rules : length rules % 4 ≡ 0 = omega (arith, holds.rules_hold.whole) in
      let whole-schema : length schema % 4 ≡ 0 = omega (arith, holds.schema_holds.whole) in
      let r = file_numbers A N Q rules schema endings whole-rules whole-schema in
      let size : length file ≡ first_body + 4 * rule_count file + 4 * schema_count file + ending_count file = omega arith in
      file_sound file
      record {
        some_name = rw r.names_are holds.some_name;
        few_names = rw r.names_are holds.few_names;
        some_nonterminal = rw r.nonterminals_are holds.some_nonterminal;
        few_nonterminals = rw r.nonterminals_are holds.few_nonterminals;
        some_state = rw r.states_are holds.some_state;
        few_states = rw r.states_are holds.few_states;
        spare_zero = file_spare A N Q rules schema endings;
        rules_offset = file_first A N Q rules schema endings;
        few_rules = rw r.rules_counted holds.few_rules;
        schema_rules_offset = file_second A N Q rules schema endings;
        few_schema_rules = rw r.schema_counted holds.few_schema_rules;
        endings_offset = file_third A N Q rules schema endings;
        few_endings = rw (r.endings_counted, r.states_are) holds.few_endings;
        whole_length = size;
        rules_pass =
            holds_body (Templates rule_symbols) (name_count file) (nonterminals file) (states file) file first_body (rule_count file) (omega arith)
            (body_same (Templates rule_symbols) A (name_count file) N (nonterminals file) Q (states file) (length rules / 4) (rule_count file)
            rules (template_rules file) (sym r.names_are) (sym r.nonterminals_are) (sym r.states_are) (sym r.rules_counted)
            (sym r.rules_are) holds.rules_hold);
        schema_rules_pass =
            holds_body Schema (name_count file) (nonterminals file) (states file) file (schema_start file) (schema_count file) (omega arith)
            (body_same Schema A (name_count file) N (nonterminals file) Q (states file) (length schema / 4) (schema_count file) schema
            (schema_rules file) (sym r.names_are) (sym r.nonterminals_are) (sym r.states_are) (sym r.schema_counted)
            (sym r.schema_are) holds.schema_holds);
        endings_pass =
            holds_body Endings (name_count file) (nonterminals file) (states file) file (ending_start file) (ending_count file) (omega arith)
            (body_same Endings A (name_count file) N (nonterminals file) Q (states file) (length endings) (ending_count file) endings
            (part_of file (ending_start file) (1 * ending_count file)) (sym r.names_are) (sym r.nonterminals_are) (sym r.states_are)
            (sym r.endings_counted) (sym (ap (part_of file (ending_start file)) (one-mul (ending_count file)) ∙ r.endings_are))
            holds.endings_hold);
      }

  sound_file_holds : IsSound file → FileHolds A N Q rules schema endings
  sound_file_holds s =
      let f = sound_file file s in
      let rule-count = file_rule_count A N Q rules schema endings in
      let schema-count = file_schema_count A N Q rules schema endings in
      let ending-count = file_ending_count A N Q rules schema endings in
      let size = file_length A N Q rules schema endings in
      let whole-rules : length rules % 4 ≡ 0 = omega arith in
      let whole-schema : length schema % 4 ≡ 0 = omega arith in
      let r = file_numbers A N Q rules schema endings whole-rules whole-schema in
      holds_same (name_count file) A (nonterminals file) N (states file) Q (template_rules file) rules (schema_rules file) schema
      (ending_states file) endings r.names_are r.nonterminals_are r.states_are r.rules_are r.schema_are r.endings_are
      (sound_holds file f)

  pub file_is_sound : IsSound file ↔ FileHolds A N Q rules schema endings
  file_is_sound = (sound_file_holds, holds_sound)
