-- What splitting a file of long rules answers (Rules, section 13): 7 with the place; 16 where more nonterminals or rules would be needed than
-- a file may have; 17 where the output is too short; else the ordinary file, and how many bytes it has. A refusal leaves every byte of the
-- output, and the bytes past the file's end stay.
use Rattle.std.specs.Prelude.{◌≡◌, List, ◌++◌, ◌↔◌, ℕ, ◌+◌, ◌≤◌, ◌<◌, length, drop, Result, Ok, Err}
use Rattle.template.specs.Layout.{name_count, nonterminals, states}
use Rattle.template.specs.Layout.{template_rules, schema_rules, ending_states, template_rules_of, schema_rules_of, ending_states_of}
use Rattle.template.specs.Order.{IsSound, SoundOf, reading_of, faulty}
use Rattle.save.specs.Entries.{Entry}
use Rattle.save.specs.Files.{Bytes}
use Rattle.long.specs.Rules.{long_symbols, long_count, extras, PartsFit, IsPart}
use Rattle.long.specs.declared.SplitRefusal.{SplitRefusal}
use Rattle.long.specs.declared.SplitRefusal.TheVariants.{BadFile, TooMany, Short}

-- how many bytes were written, or why none were
abbrev pub SplitReply : Type 0
SplitReply = Result ℕ SplitRefusal

module _ (f : List ℕ) where
  abbrev pub long_rules : List ℕ
  long_rules = template_rules_of long_symbols f

  -- the new nonterminals of all rules: one for each symbol past the second in each
  abbrev pub all_extras : ℕ
  all_extras = extras long_rules (long_count long_rules)

  -- F is the ordinary file: its template rules are exactly the parts of the long ones; the rest is as it was
  pub record Shortens (F : List ℕ) : Type 0 where
    pub bytes : Bytes F
    pub sound : IsSound F
    pub names_same : name_count F ≡ name_count f
    pub nonterminals_are : nonterminals F ≡ nonterminals f + all_extras
    pub states_same : states F ≡ states f
    pub rules_are : (e : List ℕ) → Entry 4 (template_rules F) e ↔ IsPart (nonterminals f) long_rules e
    pub schema_same : schema_rules F ≡ schema_rules_of long_symbols f
    pub endings_same : ending_states F ≡ ending_states_of long_symbols f

  abbrev pub SplitSays : List ℕ → SplitReply → List ℕ → Type 0
  SplitSays out (Err (BadFile p)) out' = (reading_of long_symbols f ≡ faulty p) × (out' ≡ out)
  SplitSays out (Err TooMany) out' = SoundOf long_symbols f × (PartsFit (nonterminals f) long_rules → ⊥) × (out' ≡ out)
  SplitSays out (Err Short) out' = SoundOf long_symbols f × PartsFit (nonterminals f) long_rules × ((F : List ℕ) × Shortens F × (length out < length F)) × (out' ≡ out)
  SplitSays out (Ok n) out' =
      SoundOf long_symbols f × PartsFit (nonterminals f) long_rules × ((F : List ℕ) × Shortens F × (n ≡ length F) × (n ≤ length out) × (out' ≡ F ++ drop n out))

-- the reply in numbers: 0 with the bytes written, 7 with the place, 16, 17
abbrev pub answer : SplitReply → ℕ
answer (Ok n) = 0
answer (Err (BadFile p)) = 7
answer (Err TooMany) = 16
answer (Err Short) = 17

abbrev pub number : SplitReply → ℕ
number (Ok n) = n
number (Err (BadFile p)) = p
number (Err TooMany) = 0
number (Err Short) = 0
