-- The three lists stand in the file. Where a part ends within the file it has its length, and its bytes and entries are the file's,
-- shifted by the part's start (`part_is` and the laws of take and drop). In a sound file, whatever the number of symbols of a template
-- rule, all three parts end within it, since the last one ends where the file does. Assumes nothing.
use mathlib.Core.Path.{◌≡◌, refl, ◌∙◌, ap}
use mathlib.Core.List.{List, [], ◌∷◌}
use Prim.Native.Nat.{ℕ, zero, suc, ◌+◌, ◌*◌, ◌/◌, ◌≤◌, ◌<◌}
use native.Mathlib.Nat.{mul-suc, mul-le-mul_left}
use native.Mathlib.Omega.{arith}
use lib.ListN.{length, get_or, take, drop, length-drop}
use lib.Seq.{length-take-le, get_or-take, get_or-drop, take-take, drop-drop}
use borrow.Author.Tests.{le-leb}
use Rattle.numbers.specs.Fields.{field}
use Rattle.entries.specs.Entries.{byte_at, rule_width}
use Rattle.template.specs.Layout.{rule_count, schema_count, ending_count, schema_start_of, ending_start_of, part_of, template_rules_of}
use Rattle.template.specs.Layout.{schema_rules_of, ending_states_of, template_rules}
use Rattle.entries.proofs.EntryLaws.{entry}
use Rattle.template.proofs.SoundLaws.{SoundFileOf, SoundFile}

-- a part that ends within the file
pub part_is : (f : List ℕ) (at len : ℕ) → at + len ≤ length f → part_of f at len ≡ take len (drop at f)
unfolding part_of
part_is f at len h = rw (le-leb (at + len) (length f) h)

pub part_length : (f : List ℕ) (at len : ℕ) → at + len ≤ length f → length (part_of f at len) ≡ len
part_length f at len h =
    let k : len ≤ length (drop at f) = rw (length-drop at f) (omega arith) in
    rw (part_is f at len h, length-take-le len (drop at f) k)

pub part_at : (f : List ℕ) (at len i : ℕ) → at + len ≤ length f → i < len → get_or (part_of f at len) i 0 ≡ byte_at f (at + i)
part_at f at len i h k = rw (part_is f at len h, get_or-take len (drop at f) i 0 k, get_or-drop at f i 0)

-- byte j of entry i, each entry of the same width; and its field where it has four bytes
pub part_byte : (wide : ℕ) (f : List ℕ) (at n i j : ℕ) → at + wide * n ≤ length f → i < n → j < wide
    → get_or (part_of f at (wide * n)) (wide * i + j) 0 ≡ byte_at f (at + wide * i + j)
part_byte wide f at n i j h k m =
    let within : wide * suc i ≤ wide * n = mul-le-mul_left wide k in
    let e : at + (wide * i + j) ≡ at + wide * i + j = omega arith in
    part_at f at (wide * n) (wide * i + j) h (omega (arith, mul-suc wide i)) ∙ ap (byte_at f) e

pub part_field : (f : List ℕ) (at n i j : ℕ) → at + 4 * n ≤ length f → i < n → j < 4
    → field (part_of f at (4 * n)) i j ≡ byte_at f (at + 4 * i + j)
unfolding field
part_field f at n i j h k m =
    let e : at + (i * 4 + j) ≡ at + 4 * i + j = omega arith in
    part_at f at (4 * n) (i * 4 + j) h (omega arith) ∙ ap (byte_at f) e

-- what stands in a list within its first bytes stands there if the list is cut after them
window_take : (wide k len : ℕ) (l : List ℕ) → k + wide ≤ len → take wide (drop k (take len l)) ≡ take wide (drop k l)
window_take wide zero len l h = take-take wide len l (omega arith)
window_take wide (suc k) zero l h = absurd (omega arith)
window_take wide (suc k) (suc len) [] h = refl
window_take wide (suc k) (suc len) (x ∷ l) h = window_take wide k len l (omega arith)

pub part_entry : (f : List ℕ) (at len wide i : ℕ) → at + len ≤ length f → wide * suc i ≤ len
    → entry wide (part_of f at len) i ≡ take wide (drop (at + wide * i) f)
part_entry f at len wide i h k =
    rw (part_is f at len h, window_take wide (wide * i) len (drop at f) (omega arith), drop-drop (wide * i) at f)

-- the three parts of a sound file
module _ {symbols : ℕ} (f : List ℕ) (s : SoundFileOf symbols f) where
  pub rules_fit : 16 + rule_width symbols * rule_count f ≤ length f
  rules_fit = omega arith

  pub schema_rules_fit : schema_start_of symbols f + 4 * schema_count f ≤ length f
  schema_rules_fit = omega arith

  pub endings_fit : ending_start_of symbols f + ending_count f ≤ length f
  endings_fit = omega arith

  pub rules_length : length (template_rules_of symbols f) ≡ rule_width symbols * rule_count f
  rules_length = part_length f 16 (rule_width symbols * rule_count f) rules_fit

  pub schema_rules_length : length (schema_rules_of symbols f) ≡ 4 * schema_count f
  schema_rules_length = part_length f (schema_start_of symbols f) (4 * schema_count f) schema_rules_fit

  pub endings_length : length (ending_states_of symbols f) ≡ ending_count f
  endings_length = part_length f (ending_start_of symbols f) (ending_count f) endings_fit

  pub schema_rules_count : length (schema_rules_of symbols f) / 4 ≡ schema_count f
  schema_rules_count = rw schema_rules_length (omega arith)

  -- their fields
  pub rules_byte : (i j : ℕ) → i < rule_count f → j < rule_width symbols
      → get_or (template_rules_of symbols f) (rule_width symbols * i + j) 0 ≡ byte_at f (16 + rule_width symbols * i + j)
  rules_byte i j h k = part_byte (rule_width symbols) f 16 (rule_count f) i j rules_fit h k

  pub schema_rules_field : (i j : ℕ) → i < schema_count f → j < 4
      → field (schema_rules_of symbols f) i j ≡ byte_at f (schema_start_of symbols f + 4 * i + j)
  schema_rules_field i j h k = part_field f (schema_start_of symbols f) (schema_count f) i j schema_rules_fit h k

  pub endings_at : (j : ℕ) → j < ending_count f → get_or (ending_states_of symbols f) j 0 ≡ byte_at f (ending_start_of symbols f + j)
  endings_at j h = part_at f (ending_start_of symbols f) (ending_count f) j endings_fit h

-- template rules of four bytes
module _ (f : List ℕ) (s : SoundFile f) where
  pub rules_count : length (template_rules f) / 4 ≡ rule_count f
  rules_count = rw (rules_length f s) (omega arith)

  pub rules_field : (i j : ℕ) → i < rule_count f → j < 4 → field (template_rules f) i j ≡ byte_at f (16 + 4 * i + j)
  rules_field i j h k = part_field f 16 (rule_count f) i j (rules_fit f s) h k
