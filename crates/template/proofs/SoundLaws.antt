-- Sound files, whatever the number of symbols of a template rule. What reading answers says that no test has a fault, so all of them
-- hold; the record `SoundFileOf` says this once in the file's own numbers. The tests of the head and the contents are read off one by one, and back. Assumes nothing.
use Rattle.std.proofs.lemmas.Bool.{and_parts}
use mathlib.Core.Path.{◌≡◌, refl}
use mathlib.Core.Bool.{true}
use mathlib.Core.List.{List, ◌++◌}
use Prim.Native.Nat.{ℕ, ◌*◌, ◌≤◌}
use native.Mathlib.Nat.{mul-le-mul_left}
use native.Mathlib.Omega.{arith}
use lib.Dec.{leb}
use lib.ListN.{length}
use borrow.Author.Tests.{leb-true, eqb-true, le-leb, eq-eqb}
use Rattle.entries.specs.Tests.{first_fault}
use Rattle.entries.specs.Entries.{byte_at, rule_symbols, rule_width}
use Rattle.std.specs.Prelude.{Ok, Err}
use Rattle.entries.specs.Tests.{Tested}
use Rattle.entries.specs.declared.Body.TheVariants.{Templates, Schema, Endings}
use Rattle.template.specs.Layout.{half_at, name_count, nonterminals, states, rule_count, schema_count, ending_count, most_rules}
use Rattle.template.specs.Layout.{longest_file_of, schema_start_of, ending_start_of, bodies_end_of}
use Rattle.template.specs.Order.{between, head_tests, contents_tests, body, bodies, tests, SoundOf, IsSound, shape_of, verdict}
use Rattle.template.specs.Order.{reading_of, reading}
use Rattle.template.specs.declared.Shape.{Shape}
use Rattle.entries.proofs.OrderLaws.{ok_holds, first_append_ok, ok_append}

-- what reading answers

verdict_sound : (x : Tested) (z s : Shape) → verdict x z ≡ Ok s → (x ≡ Ok tt) × (s ≡ z)
verdict_sound (Ok u) z s e = (refl, cc)
verdict_sound (Err x) z s e = (cc, cc)

pub reading_sound_of : (symbols : ℕ) (f : List ℕ) (s : Shape) → reading_of symbols f ≡ Ok s → SoundOf symbols f × (s ≡ shape_of f)
unfolding reading_of
reading_sound_of symbols f s e = verdict_sound (first_fault (tests symbols f)) (shape_of f) s e

pub sound_reading_of : (symbols : ℕ) (f : List ℕ) → SoundOf symbols f → reading_of symbols f ≡ Ok (shape_of f)
unfolding reading_of
sound_reading_of symbols f e = rw e

pub reading_sound : (f : List ℕ) (s : Shape) → reading f ≡ Ok s → IsSound f × (s ≡ shape_of f)
reading_sound = reading_sound_of rule_symbols

pub sound_reading : (f : List ℕ) → IsSound f → reading f ≡ Ok (shape_of f)
sound_reading = sound_reading_of rule_symbols

-- what holds of a sound file: its numbers, its length, and the tests of its three bodies
pub record SoundFileOf (symbols : ℕ) (f : List ℕ) : Type 0 where
  pub some_name : 1 ≤ name_count f
  pub few_names : name_count f ≤ 32
  pub some_nonterminal : 1 ≤ nonterminals f
  pub few_nonterminals : nonterminals f ≤ 64
  pub some_state : 1 ≤ states f
  pub few_states : states f ≤ 8
  pub spare_zero : byte_at f 3 ≡ 0
  pub rules_offset : half_at f 4 ≡ 16
  pub few_rules : rule_count f ≤ 256
  pub schema_rules_offset : half_at f 8 ≡ schema_start_of symbols f
  pub few_schema_rules : schema_count f ≤ 128
  pub endings_offset : half_at f 12 ≡ ending_start_of symbols f
  pub few_endings : ending_count f ≤ states f
  pub whole_length : length f ≡ bodies_end_of symbols f
  pub rules_pass : first_fault (body (Templates symbols) f 16 (rule_count f)) ≡ Ok tt
  pub schema_rules_pass : first_fault (body Schema f (schema_start_of symbols f) (schema_count f)) ≡ Ok tt
  pub endings_pass : first_fault (body Endings f (ending_start_of symbols f) (ending_count f)) ≡ Ok tt

abbrev pub SoundFile : List ℕ → Type 0
SoundFile = SoundFileOf rule_symbols

between_true : (low x high : ℕ) → between low x high ≡ true → (low ≤ x) × (x ≤ high)
between_true low x high e =
    let h = and_parts (leb low x) _ e in
    (leb-true low x h.0, leb-true x high h.1)

pub sound_file_of : (symbols : ℕ) (f : List ℕ) → SoundOf symbols f → SoundFileOf symbols f
unfolding tests head_tests contents_tests bodies
sound_file_of symbols f e =
    let rules = body (Templates symbols) f 16 (rule_count f) in
    let schema-rules = body Schema f (schema_start_of symbols f) (schema_count f) in
    let endings = body Endings f (ending_start_of symbols f) (ending_count f) in
    let t = first_append_ok (head_tests f) (contents_tests symbols f ++ bodies symbols f) e in
    let u = first_append_ok (contents_tests symbols f) (bodies symbols f) t.1 in
    let v = first_append_ok rules (schema-rules ++ endings) u.1 in
    let w = first_append_ok schema-rules endings v.1 in
    let h = ok_holds (head_tests f) t.0 in
    let k = ok_holds (contents_tests symbols f) u.0 in
    let a = between_true 1 (name_count f) 32 h.1.0 in
    let n = between_true 1 (nonterminals f) 64 h.1.1.0 in
    let q = between_true 1 (states f) 8 h.1.1.1.0 in
    record {
      some_name = a.0;
      few_names = a.1;
      some_nonterminal = n.0;
      few_nonterminals = n.1;
      some_state = q.0;
      few_states = q.1;
      spare_zero = eqb-true (byte_at f 3) 0 h.1.1.1.1.0;
      rules_offset = eqb-true (half_at f 4) 16 k.0;
      few_rules = leb-true (rule_count f) 256 k.1.0;
      schema_rules_offset = eqb-true (half_at f 8) (schema_start_of symbols f) k.1.1.0;
      few_schema_rules = leb-true (schema_count f) 128 k.1.1.1.0;
      endings_offset = eqb-true (half_at f 12) (ending_start_of symbols f) k.1.1.1.1.0;
      few_endings = leb-true (ending_count f) (states f) k.1.1.1.1.1.0;
      whole_length = eqb-true (length f) (bodies_end_of symbols f) k.1.1.1.1.1.1.0;
      rules_pass = v.0;
      schema_rules_pass = w.0;
      endings_pass = w.1;
    }

pub sound_file : (f : List ℕ) → IsSound f → SoundFile f
sound_file = sound_file_of rule_symbols

-- and these are all the tests
true_between : (low x high : ℕ) → low ≤ x → x ≤ high → between low x high ≡ true
true_between low x high h k = rw (le-leb low x h, le-leb x high k)

pub file_sound : {symbols : ℕ} (f : List ℕ) → SoundFileOf symbols f → SoundOf symbols f
unfolding tests head_tests contents_tests bodies first_fault
file_sound {symbols = symbols} f s =
    let head : first_fault (head_tests f) ≡ Ok tt =
    rw (le-leb 16 (length f) (omega arith), true_between 1 (name_count f) 32 s.some_name s.few_names)
    (rw (true_between 1 (nonterminals f) 64 s.some_nonterminal s.few_nonterminals)
    (rw (true_between 1 (states f) 8 s.some_state s.few_states, eq-eqb (byte_at f 3) 0 s.spare_zero))) in
    let contents : first_fault (contents_tests symbols f) ≡ Ok tt =
    rw (eq-eqb (half_at f 4) 16 s.rules_offset, le-leb (rule_count f) 256 s.few_rules)
    (rw (eq-eqb (half_at f 8) (schema_start_of symbols f) s.schema_rules_offset, le-leb (schema_count f) 128 s.few_schema_rules)
    (rw (eq-eqb (half_at f 12) (ending_start_of symbols f) s.endings_offset, le-leb (ending_count f) (states f) s.few_endings)
    (rw (eq-eqb (length f) (bodies_end_of symbols f) s.whole_length)))) in
    let rules = body (Templates symbols) f 16 (rule_count f) in
    let schema-rules = body Schema f (schema_start_of symbols f) (schema_count f) in
    let endings = body Endings f (ending_start_of symbols f) (ending_count f) in
    ok_append (head_tests f) (contents_tests symbols f ++ bodies symbols f) head
    (ok_append (contents_tests symbols f) (bodies symbols f) contents
    (ok_append rules (schema-rules ++ endings) s.rules_pass
    (ok_append schema-rules endings s.schema_rules_pass s.endings_pass)))

-- the longest sound file
pub sound_length_of : {symbols : ℕ} (f : List ℕ) → SoundFileOf symbols f → length f ≤ longest_file_of symbols
sound_length_of {symbols = symbols} f s =
    let rules : rule_width symbols * rule_count f ≤ rule_width symbols * most_rules = mul-le-mul_left (rule_width symbols) s.few_rules in
    omega arith

pub sound_length : (f : List ℕ) → SoundFile f → length f ≤ 1560
sound_length f s = omega arith
