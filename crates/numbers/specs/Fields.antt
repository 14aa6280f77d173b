-- Rules in a list of bytes, four to a rule: template rules (left side, length, two symbols) and schema rules (X, a, Y, Z) alike.
use Rattle.std.specs.Prelude.{List, ℕ, ◌+◌, ◌*◌, get_or}

-- field j of rule i
unfoldable pub field : List ℕ → ℕ → ℕ → ℕ
field rules i j = get_or rules (i * 4 + j) 0
