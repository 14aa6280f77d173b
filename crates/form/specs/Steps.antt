-- One tag more, and joining, on the arrays: words/specs/Reader.antt over the pieces of a lore, at most 16 tags.
use Rattle.std.specs.Prelude.{◌≡◌, List, ℕ, Result, Ok, Err}
use Rattle.words.specs.Tags.{Tag}
use Rattle.words.specs.Reader.{Limited, fits, differs, too_deep, step, limit, join_within}
use Rattle.pieces.specs.declared.Piece.{Piece}
use Rattle.pieces.specs.Pieces.{most_tags, pieces}
use Rattle.form.specs.Held.{summary_of, form_of, last_of, Holds}
use Rattle.form.specs.declared.Counts.{Counts}
use Rattle.form.specs.declared.Summary.{Summary}
use Rattle.form.specs.declared.Clash.{Clash}
use Rattle.form.specs.declared.Clash.TheVariants.{Mismatch, TooDeep}

-- the form that a summary holds: the tags, and the piece after them
abbrev pub held : Summary → Limited Piece
held s = fits (form_of s) (last_of s)

-- what the arrays hold after a step, or its refusal
unfoldable pub outcome : Result Counts Clash → List ℕ → List ℕ → Limited Piece
outcome (Ok c) names values = held (summary_of c names values)
outcome (Err (Mismatch a b)) names values = differs a b
outcome (Err TooDeep) names values = too_deep

abbrev pub HoldsAfter : Result Counts Clash → List ℕ → List ℕ → Type 0
HoldsAfter (Ok c) names values = Holds (summary_of c names values)
HoldsAfter (Err e) names values = Unit {0}

-- the step and the arrays after it say o
pub record Stepped (r : Result Counts Clash) (names values : List ℕ) (o : Limited Piece) : Type 0 where
  pub says : outcome r names values ≡ o
  pub holds : HoldsAfter r names values

module _ (lore : List ℕ) where
  -- one tag more
  unfoldable pub after_tag : Summary → Tag → Limited Piece
  after_tag s t = limit (pieces lore) most_tags (step (pieces lore) (form_of s) (last_of s) t)

  -- a whole form more
  unfoldable pub after_form : Summary → Summary → Limited Piece
  after_form s more = join_within (pieces lore) most_tags (held s) (form_of more) (last_of more)
