-- The order of reading (Rules, section 4), as a list of tests, each with the place that is given where it fails: the head, the contents with
-- each offset before its count, the file's length, then the bodies, entry by entry. The first test that fails decides.
use Rattle.std.specs.Prelude.{◌≡◌, Bool, ◌&&◌, List, [], ◌∷◌, ◌++◌, ℕ, leb, eqb, length, Result, Ok, Err}
use Rattle.words.specs.Tags.{most_names}
use Rattle.hedge.specs.Schema.{most_states}
use Rattle.entries.specs.Tests.{test, Tested, first_fault}
use Rattle.entries.specs.declared.Test.{Test}
use Rattle.entries.specs.Entries.{byte_at, rule_symbols, body_tests}
use Rattle.entries.specs.declared.Fault.{Fault}
use Rattle.entries.specs.declared.Body.{Body}
use Rattle.entries.specs.declared.Body.TheVariants.{Templates, Schema, Endings}
use Rattle.template.specs.Layout.{most_nonterminals, most_rules, most_schema_rules, half_at, name_count, nonterminals, states, rule_count}
use Rattle.template.specs.Layout.{schema_count, ending_count, schema_start_of, ending_start_of, bodies_end_of}
use Rattle.template.specs.declared.Shape.{Shape}

abbrev pub between : ℕ → ℕ → ℕ → Bool
between low x high = leb low x && leb x high

-- length; A from 1 to 32, N from 1 to 64, Q from 1 to 8, then 0
unfoldable pub head_tests : List ℕ → List Test
head_tests f =
    test (leb 16 (length f)) 0
    ∷ test (between 1 (name_count f) most_names) 0
    ∷ test (between 1 (nonterminals f) most_nonterminals) 1
    ∷ test (between 1 (states f) most_states) 2
    ∷ test (eqb (byte_at f 3) 0) 3
    ∷ []

-- each body begins where the one before it ends, its count is within its limit, and the last ends with the file
unfoldable pub contents_tests : ℕ → List ℕ → List Test
contents_tests symbols f =
    test (eqb (half_at f 4) 16) 4
    ∷ test (leb (rule_count f) most_rules) 6
    ∷ test (eqb (half_at f 8) (schema_start_of symbols f)) 8
    ∷ test (leb (schema_count f) most_schema_rules) 10
    ∷ test (eqb (half_at f 12) (ending_start_of symbols f)) 12
    ∷ test (leb (ending_count f) (states f)) 14
    ∷ test (eqb (length f) (bodies_end_of symbols f)) 0
    ∷ []

abbrev pub body : Body → List ℕ → ℕ → ℕ → List Test
body b f first n = body_tests b (name_count f) (nonterminals f) (states f) f first first n

unfoldable pub bodies : ℕ → List ℕ → List Test
bodies symbols f =
    body (Templates symbols) f 16 (rule_count f)
    ++ (body Schema f (schema_start_of symbols f) (schema_count f) ++ body Endings f (ending_start_of symbols f) (ending_count f))

-- the whole order of reading, where template rules have so many symbols
unfoldable pub tests : ℕ → List ℕ → List Test
tests symbols f = head_tests f ++ (contents_tests symbols f ++ bodies symbols f)

-- sound: every test holds
abbrev pub SoundOf : ℕ → List ℕ → Type 0
SoundOf symbols f = first_fault (tests symbols f) ≡ Ok tt

abbrev pub IsSound : List ℕ → Type 0
IsSound = SoundOf rule_symbols

-- a sound file's numbers
abbrev pub shape_of : List ℕ → Shape
shape_of f =
    record {
      names = name_count f;
      nonterminals = nonterminals f;
      states = states f;
      templates = rule_count f;
      schema = schema_count f;
      endings = ending_count f;
    }

-- its numbers where every test holds, else the place of the first that fails
abbrev pub Reading : Type 0
Reading = Result Shape Fault

abbrev pub faulty : ℕ → Reading
faulty p = Err (record { place = p })

abbrev pub verdict : Tested → Shape → Reading
verdict (Ok u) s = Ok s
verdict (Err f) s = Err f

unfoldable pub reading_of : ℕ → List ℕ → Reading
reading_of symbols f = verdict (first_fault (tests symbols f)) (shape_of f)

abbrev pub reading : List ℕ → Reading
reading = reading_of rule_symbols

-- the reading in numbers: a bad file is 7 with the place (Rules, section 9)
abbrev pub answer : Reading → ℕ
answer (Ok s) = 0
answer (Err f) = 7

abbrev pub number : Reading → ℕ
number (Ok s) = 0
number (Err f) = f.place
