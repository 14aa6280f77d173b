-- A template file from its numbers and its three lists (Rules, section 4): the head, the contents with each body's offset and count, then
-- the bodies, each right behind the one before it.
use Rattle.std.specs.Prelude.{◌≡◌, List, [], ◌∷◌, ◌++◌, ℕ, ◌+◌, ◌*◌, ◌/◌, ◌%◌, ◌≤◌, ◌<◌, length, drop}
use Rattle.entries.specs.Entries.{byte_at}
use Rattle.template.specs.Layout.{first_body, most_rules, most_schema_rules}
use Rattle.template.specs.declared.Shape.{Shape}

-- every number of the list is a byte
abbrev pub Bytes : List ℕ → Type 0
Bytes f = (i : ℕ) → byte_at f i < 256

-- A, N, Q and 0
abbrev pub numbers_of : ℕ → ℕ → ℕ → List ℕ
numbers_of A N Q = A ∷ N ∷ Q ∷ 0 ∷ []

-- a number of 16 bits as two bytes, the low one first
abbrev pub half_bytes : ℕ → List ℕ
half_bytes n = n % 256 ∷ n / 256 ∷ []

-- the head and the contents, where the bodies have so many entries
unfoldable pub head_of : ℕ → ℕ → ℕ → ℕ → ℕ → ℕ → List ℕ
head_of A N Q rules schema endings =
    numbers_of A N Q
    ++ (half_bytes first_body
    ++ (half_bytes rules
    ++ (half_bytes (first_body + 4 * rules)
    ++ (half_bytes schema ++ (half_bytes (first_body + 4 * rules + 4 * schema) ++ half_bytes endings)))))

-- the file of A names, N nonterminals and Q states with these template rules, schema rules and ending states
unfoldable pub file_of : ℕ → ℕ → ℕ → List ℕ → List ℕ → List ℕ → List ℕ
file_of A N Q rules schema endings =
    head_of A N Q (length rules / 4) (length schema / 4) (length endings) ++ (rules ++ (schema ++ endings))

-- the same by a shape
abbrev pub head_for : Shape → List ℕ
head_for s = head_of s.names s.nonterminals s.states s.templates s.schema s.endings

abbrev pub file_for : Shape → List ℕ → List ℕ → List ℕ → List ℕ
file_for s rules schema endings = file_of s.names s.nonterminals s.states rules schema endings

-- bytes over the front of a list: what stands behind them stays
abbrev pub over : List ℕ → List ℕ → List ℕ
over bytes out = bytes ++ drop (length bytes) out

-- the lists have as many entries as the shape says, within the limits of a file
pub record Counted (shape : Shape) (rules schema endings : List ℕ) : Type 0 where
  pub rules_counted : length rules ≡ 4 * shape.templates
  pub few_rules : shape.templates ≤ most_rules
  pub schema_counted : length schema ≡ 4 * shape.schema
  pub few_schema_rules : shape.schema ≤ most_schema_rules
  pub endings_counted : length endings ≡ shape.endings
