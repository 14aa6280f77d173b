-- Where things stand in a template file. Rules, section 4: three numbers and a 0; then for each of the three bodies where it begins and how
-- many entries it has, both of 16 bits with the low byte first; from byte 16 on the bodies, each behind the one before it, up to the
-- end of the file.
use Rattle.std.specs.Prelude.{Bool, true, false, List, [], ℕ, ◌+◌, ◌*◌, leb, length, take, drop}
use Rattle.hedge.specs.Schema.{most_states}
use Rattle.entries.specs.Entries.{rule_symbols, rule_width, byte_at}

-- where the first body begins: behind the head and the contents
abbrev pub first_body : ℕ
first_body = 16

-- the most nonterminals, template rules and schema rules
abbrev pub most_nonterminals : ℕ
most_nonterminals = 64

abbrev pub most_rules : ℕ
most_rules = 256

abbrev pub most_schema_rules : ℕ
most_schema_rules = 128

-- the length of the longest file
abbrev pub longest_file_of : ℕ → ℕ
longest_file_of symbols = first_body + rule_width symbols * most_rules + 4 * most_schema_rules + most_states

abbrev pub longest_file : ℕ
longest_file = longest_file_of rule_symbols

-- the 16-bit number at a place
unfoldable pub half_at : List ℕ → ℕ → ℕ
half_at f p = byte_at f p + 256 * byte_at f (p + 1)

-- A, N and Q
abbrev pub name_count : List ℕ → ℕ
name_count f = byte_at f 0

abbrev pub nonterminals : List ℕ → ℕ
nonterminals f = byte_at f 1

abbrev pub states : List ℕ → ℕ
states f = byte_at f 2

-- how many entries each body has
abbrev pub rule_count : List ℕ → ℕ
rule_count f = half_at f 6

abbrev pub schema_count : List ℕ → ℕ
schema_count f = half_at f 10

abbrev pub ending_count : List ℕ → ℕ
ending_count f = half_at f 14

-- where the second and the third body begin, and where the last one ends, in a file whose template rules have so many symbols: a schema
-- rule has 4 bytes, an ending state 1
module _ (symbols : ℕ) where
  abbrev pub schema_start_of : List ℕ → ℕ
  schema_start_of f = first_body + rule_width symbols * rule_count f

  abbrev pub ending_start_of : List ℕ → ℕ
  ending_start_of f = schema_start_of f + 4 * schema_count f

  abbrev pub bodies_end_of : List ℕ → ℕ
  bodies_end_of f = ending_start_of f + ending_count f

abbrev pub schema_start : List ℕ → ℕ
schema_start = schema_start_of rule_symbols

abbrev pub ending_start : List ℕ → ℕ
ending_start = ending_start_of rule_symbols

abbrev pub bodies_end : List ℕ → ℕ
bodies_end = bodies_end_of rule_symbols

-- a part of the file, empty where the file ends before it does
abbrev pub pick_part : Bool → List ℕ → List ℕ
pick_part true xs = xs
pick_part false xs = []

unfoldable pub part_of : List ℕ → ℕ → ℕ → List ℕ
part_of f at len = pick_part (leb (at + len) (length f)) (take len (drop at f))

-- the three lists, as parts of the file
module _ (symbols : ℕ) where
  abbrev pub template_rules_of : List ℕ → List ℕ
  template_rules_of f = part_of f first_body (rule_width symbols * rule_count f)

  abbrev pub schema_rules_of : List ℕ → List ℕ
  schema_rules_of f = part_of f (schema_start_of symbols f) (4 * schema_count f)

  abbrev pub ending_states_of : List ℕ → List ℕ
  ending_states_of f = part_of f (ending_start_of symbols f) (ending_count f)

abbrev pub template_rules : List ℕ → List ℕ
template_rules = template_rules_of rule_symbols

abbrev pub schema_rules : List ℕ → List ℕ
schema_rules = schema_rules_of rule_symbols

abbrev pub ending_states : List ℕ → List ℕ
ending_states = ending_states_of rule_symbols
