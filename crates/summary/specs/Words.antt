-- The summary of a word (Rules, section 6): what a fragment's bytes, or two fragments in a row, come to, whichever call made it.
use Rattle.std.specs.Prelude.{List, ℕ}
use Rattle.words.specs.Tags.{Tag}
use Rattle.words.specs.Reduced.{Reduced}
use Rattle.template.specs.Layout.{name_count}
use Rattle.reader.specs.Reads.{Spelled}
use Rattle.schema.specs.Schemas.{binoid_of}
use Rattle.form.specs.Held.{form_of, last_of, Holds}
use Rattle.form.specs.declared.Summary.{Summary}

-- the struct is the summary of the word, which some bytes spell under the file: it holds the word's reduced form
pub record SummaryOf (f : List ℕ) (w : List Tag) (s : Summary) : Type 0 where
  pub spelled : (bytes : List ℕ) × Spelled (name_count f) bytes w
  pub reduces : Reduced (binoid_of f) w (form_of s) (last_of s)
  pub holds : Holds s
