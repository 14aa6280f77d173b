-- Splitting a file of long rules (Rules, section 13), as the demands speak of it: the answers in their order, the output, and what the written
-- file is: every old nonterminal derives the same strings, so that what a check says of the written file it says of the long one's pages.
use Rattle.std.specs.Prelude.{◌≡◌, ◌↔◌, ◌⊎◌, ℕ, ◌≤◌, ◌<◌, length, take, drop}
use mathlib.Core.List.{List, [], ◌∷◌, Memᴰ}
use Rattle.words.specs.Tags.{Tag}
use Rattle.hedge.specs.Schema.{Schema, schema_from, Valid}
use Rattle.template.specs.Layout.{longest_file, name_count, nonterminals, states, schema_rules_of, ending_states_of}
use Rattle.template.specs.Order.{SoundOf, reading_of, answer, number}
use Rattle.schema.specs.Schemas.{schema_of}
use Rattle.reader.specs.Reads.{Spelled}
use Rattle.trees.specs.Trees.{Tree}
use Rattle.rounds.specs.Checks.{RuleOf, CheckSays}
use Rattle.rounds.specs.Answers.{answer as check_answer}
use Rattle.rounds.specs.Replies.{CheckReply}
use Rattle.long.specs.Rules.{long_symbols, LongGives, PartsFit}
use Rattle.long.specs.Splits.{long_rules, Shortens}
use Rattle.demands.specs.Third.{ReadAsValid}

-- 7, 16, 17, else 0 with the bytes of the written file: each exactly where none before it is due, and 17 never where the output has room for
-- the longest file. A refusal changes no byte, and bytes past the written file stay
pub record SplitOrder (f out : List ℕ) (a n : ℕ) (out' : List ℕ) : Type 0 where
  pub numbered : Memᴰ a (0 ∷ 7 ∷ 16 ∷ 17 ∷ [])
  pub bad_file : (a ≡ 7) ↔ (SoundOf long_symbols f → ⊥)
  pub place : a ≡ 7 → (answer (reading_of long_symbols f) ≡ 7) × (n ≡ number (reading_of long_symbols f))
  pub too_many : (a ≡ 16) ↔ (SoundOf long_symbols f × (PartsFit (nonterminals f) (long_rules f) → ⊥))
  pub short : (a ≡ 17) ↔ (SoundOf long_symbols f × PartsFit (nonterminals f) (long_rules f) × ((F : List ℕ) × Shortens f F × (length out < length F)))
  pub written : (k : ℕ)
      → ((a ≡ 0) × (n ≡ k)) ↔ (SoundOf long_symbols f × PartsFit (nonterminals f) (long_rules f) × ((F : List ℕ) × Shortens f F × (k ≡ length F) × (k ≤ length out)))
  pub room_suffices : longest_file ≤ length out → a ≡ 17 → ⊥
  pub no_number : (a ≡ 16) ⊎ (a ≡ 17) → n ≡ 0
  pub refused_unchanged : 1 ≤ a → out' ≡ out
  pub rest_unchanged : a ≡ 0 → drop n out' ≡ drop n out
  pub same_length : length out' ≡ length out

-- a page that the long rules can produce, and the schema of their file
abbrev pub LongProduces : List ℕ → List Tag → Type 0
LongProduces f w = (n : ℕ) × Tree (LongGives (long_rules f)) 0 w n

abbrev pub long_schema : List ℕ → Schema
long_schema f = schema_from (states f) (schema_rules_of long_symbols f) (ending_states_of long_symbols f)

-- a check of the written file F speaks for the pages of the long rules: after a pass each is valid, spelled by some bytes, and read as valid;
-- of a broken set some is invalid; and 6 says that there is none
pub record SpeaksFor (f F : List ℕ) : Type 0 where
  pub passed : (t t' : List ℕ) (budget : ℕ) (r : CheckReply) → CheckSays F t budget r t' → check_answer r ≡ 0
      → (w : List Tag) → LongProduces f w
      → Valid (long_schema f) w × ((bytes : List ℕ) × Spelled (name_count f) bytes w) × ReadAsValid F w
  pub broken : (t t' : List ℕ) (budget : ℕ) (r : CheckReply) → CheckSays F t budget r t' → (check_answer r ≡ 1) ⊎ (check_answer r ≡ 2)
      → (w : List Tag) × LongProduces f w × (Valid (long_schema f) w → ⊥)
  pub no_page : (t t' : List ℕ) (budget : ℕ) (r : CheckReply) → CheckSays F t budget r t' → check_answer r ≡ 6
      → (w : List Tag) → LongProduces f w → ⊥

-- what was written: n bytes, the ordinary file of the parts, by which every old nonterminal has the strings that it had, and a page is valid
-- where it was
pub record SplitWritten (f : List ℕ) (n : ℕ) (out' : List ℕ) : Type 0 where
  pub bytes : length (take n out') ≡ n
  pub shortens : Shortens f (take n out')
  pub same_strings : (x : ℕ) → x < nonterminals f → (w : List Tag)
      → ((h : ℕ) × Tree (LongGives (long_rules f)) x w h) ↔ ((h : ℕ) × Tree (RuleOf (take n out')) x w h)
  pub same_valid : (w : List Tag) → Valid (long_schema f) w ↔ Valid (schema_of (take n out')) w
  pub speaks_for : SpeaksFor f (take n out')
