-- The entries of a file's bodies (Rules, section 4), and the tests of each in their order: its fields, left to right, and that it is above the
-- entry before it. A body's tests are those of its entries in turn.
use Rattle.std.specs.Prelude.{Bool, true, false, ◌&&◌, ◌||◌, List, [], ◌∷◌, ◌++◌, ℕ, zero, suc, ◌+◌, ◌-◌, ltb, leb, eqb, get_or, take, drop}
use Rattle.entries.specs.Tests.{Test, test}
use Rattle.entries.specs.declared.Body.{Body}
use Rattle.entries.specs.declared.Body.TheVariants.{Templates, Schema, Endings}

-- the byte at a place
abbrev pub byte_at : List ℕ → ℕ → ℕ
byte_at f p = get_or f p 0

-- a template rule has two symbols; how a file is read is stated for any number of them, and goes up to twelve. Their bytes follow the
-- rule's left side and its length.
abbrev pub rule_symbols : ℕ
rule_symbols = 2

abbrev pub most_symbols : ℕ
most_symbols = 12

abbrev pub rule_width : ℕ → ℕ
rule_width symbols = 2 + symbols

-- a symbol that counts is a start tag, an end tag or a nonterminal of the file; one that does not is 255
abbrev pub is_symbol : ℕ → ℕ → ℕ → Bool
is_symbol A N b = ltb b A || ((leb 32 b && ltb b (32 + A)) || (leb 64 b && ltb b (64 + N)))

abbrev pub symbol_holds : Bool → ℕ → ℕ → ℕ → Bool
symbol_holds true A N b = is_symbol A N b
symbol_holds false A N b = eqb b 255

-- n symbols of the rule at a place, from its symbol j on: those below the rule's length count
unfoldable pub symbol_tests : ℕ → ℕ → List ℕ → ℕ → ℕ → ℕ → List Test
symbol_tests A N f at j zero = []
symbol_tests A N f at j (suc n) =
    test (symbol_holds (ltb j (byte_at f (at + 1))) A N (byte_at f (at + 2 + j))) (at + 2 + j) ∷ symbol_tests A N f at (suc j) n

-- the fields of an entry, left to right, in a file of A names, N nonterminals and Q states
unfoldable pub field_tests : Body → ℕ → ℕ → ℕ → List ℕ → ℕ → List Test
field_tests (Templates symbols) A N Q f at =
    test (ltb (byte_at f at) N) at ∷ test (leb (byte_at f (at + 1)) symbols) (at + 1) ∷ symbol_tests A N f at 0 symbols
field_tests Schema A N Q f at =
    test (ltb (byte_at f at) Q) at
    ∷ test (ltb (byte_at f (at + 1)) A) (at + 1)
    ∷ test (ltb (byte_at f (at + 2)) Q) (at + 2)
    ∷ test (ltb (byte_at f (at + 3)) Q) (at + 3)
    ∷ []
field_tests Endings A N Q f at = test (ltb (byte_at f at) Q) at ∷ []

-- how many bytes an entry has
unfoldable pub width : Body → ℕ
width (Templates symbols) = rule_width symbols
width Schema = 4
width Endings = 1

-- one entry precedes another: the first byte in which they differ is the smaller
unfoldable pub precedes : List ℕ → List ℕ → Bool
precedes [] ys = false
precedes (x ∷ xs) [] = false
precedes (x ∷ xs) (y ∷ ys) = ltb x y || (eqb x y && precedes xs ys)

-- an entry ascends: it is the body's first, or the one before it precedes it
unfoldable pub ascends : ℕ → List ℕ → ℕ → ℕ → Bool
ascends wide f first at = leb at first || precedes (take wide (drop (at - wide) f)) (take wide (drop at f))

-- the entries of a body in turn, n of them from a place on
unfoldable pub entry_tests : Body → ℕ → ℕ → ℕ → List ℕ → ℕ → ℕ → List Test
entry_tests b A N Q f first at = field_tests b A N Q f at ++ (test (ascends (width b) f first at) at ∷ [])

unfoldable pub body_tests : Body → ℕ → ℕ → ℕ → List ℕ → ℕ → ℕ → ℕ → List Test
body_tests b A N Q f first at zero = []
body_tests b A N Q f first at (suc n) = entry_tests b A N Q f first at ++ body_tests b A N Q f first (at + width b) n
