-- The three lists that a view shows (Rules, section 4): parts of the lent file and no copies.
use Rattle.std.specs.Prelude.{List, [], ℕ, ◌+◌, ◌*◌, Ok, Err}
use Rattle.std.specs.Borrow.{Bor}
use Rattle.template.specs.Layout.{first_body, part_of, template_rules, schema_rules, ending_states}
use Rattle.template.specs.Order.{Reading, reading}
use Rattle.template.specs.declared.Shape.{Shape}
use Rattle.view.specs.declared.View.{View}

-- the parts of a file that its numbers say: the template rules first, the schema rules behind them, the ending states behind both
abbrev pub templates_by : List ℕ → Shape → List ℕ
templates_by f s = part_of f first_body (4 * s.templates)

abbrev pub schema_by : List ℕ → Shape → List ℕ
schema_by f s = part_of f (first_body + 4 * s.templates) (4 * s.schema)

abbrev pub endings_by : List ℕ → Shape → List ℕ
endings_by f s = part_of f (first_body + 4 * s.templates + 4 * s.schema) s.endings

-- the parts that a view shows, by its own counts
abbrev pub templates_shown : View → List ℕ
templates_shown v = part_of v.file.now first_body (4 * v.templates)

abbrev pub schema_shown : View → List ℕ
schema_shown v = part_of v.file.now (first_body + 4 * v.templates) (4 * v.schema)

abbrev pub endings_shown : View → List ℕ
endings_shown v = part_of v.file.now (first_body + 4 * v.templates + 4 * v.schema) v.endings

-- the view of a lent file with these numbers
abbrev pub view_of : Bor (List ℕ) → Shape → View
view_of f s = record { file = f; templates = s.templates; schema = s.schema; endings = s.endings }

-- the numbers of a file that was read so: a bad one is shown with none
abbrev pub none : Shape
none = record { names = 0; nonterminals = 0; states = 0; templates = 0; schema = 0; endings = 0 }

abbrev pub counted : Reading → Shape
counted (Ok s) = s
counted (Err x) = none

-- the list where the file is sound, nothing where it is bad
abbrev pub of_sound : Reading → List ℕ → List ℕ
of_sound (Ok s) xs = xs
of_sound (Err x) xs = []

-- the three lists of a file
abbrev pub templates_in : List ℕ → List ℕ
templates_in f = of_sound (reading f) (template_rules f)

abbrev pub schema_in : List ℕ → List ℕ
schema_in f = of_sound (reading f) (schema_rules f)

abbrev pub endings_in : List ℕ → List ℕ
endings_in f = of_sound (reading f) (ending_states f)
