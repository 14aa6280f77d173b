-- The schema that a file holds, the binoid of its pieces, and the lore that is taught from it. Rules, sections 3 (schemas),
-- 4 (the file) and 5 (relations).
use Rattle.std.specs.Prelude.{List, ℕ}
use Rattle.words.specs.Binoid.{Binoid}
use Rattle.hedge.specs.Schema.{most_states, Schema, schema_from}
use Rattle.lore.specs.Lore.{Taught}
use Rattle.pieces.specs.Pieces.{pieces_of}
use Rattle.template.specs.Layout.{states, schema_rules, ending_states}

abbrev pub schema_of : List ℕ → Schema
schema_of f = schema_from (states f) (schema_rules f) (ending_states f)

abbrev pub binoid_of : List ℕ → Binoid
binoid_of f = pieces_of (states f) (schema_rules f) (ending_states f)

-- the lore was taught from the file
abbrev pub LoreOf : List ℕ → List ℕ → Type 0
LoreOf f lore = Taught most_states (states f) (schema_rules f) (ending_states f) lore
