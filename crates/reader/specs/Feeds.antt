-- What one byte more, and a run of bytes, leave in the arrays: the tag that a byte spells, stepped as form/specs/Steps.antt says, and
-- what reading finds as specs/Reads.antt says.
use Rattle.std.specs.Prelude.{◌≡◌, List, ℕ, Result, Ok, Err}
use Rattle.words.specs.Tags.{Tag, Spells}
use Rattle.words.specs.Reader.{Limited, differs, too_deep}
use Rattle.pieces.specs.declared.Piece.{Piece}
use Rattle.form.specs.Held.{summary_of, form_of, last_of, Holds}
use Rattle.form.specs.Steps.{held}
use Rattle.form.specs.declared.Counts.{Counts}
use Rattle.form.specs.declared.Clash.{Clash}
use Rattle.form.specs.declared.Clash.TheVariants as clash
use Rattle.reader.specs.Reads.{Found, whole, refused, no_tag, mismatch, too_many}
use Rattle.reader.specs.declared.Stop.{Stop}
use Rattle.reader.specs.declared.Stop.TheVariants.{NotATag, Mismatch, TooDeep}

-- the refusal of a tag, at a place
abbrev pub stop_at : Clash → ℕ → Stop
stop_at (clash.Mismatch a b) p = Mismatch p
stop_at clash.TooDeep p = TooDeep p

-- where there are A names, the byte b at place p spells a tag after which the arrays hold what they should, or that is refused; or it
-- spells none
abbrev pub Fed : Result Counts Stop → List ℕ → List ℕ → (Tag → Limited Piece) → ℕ → ℕ → ℕ → Type 0
Fed (Ok c) names values after A b p =
    (t : Tag) × Spells A b t × (after t ≡ held (summary_of c names values)) × Holds (summary_of c names values)
Fed (Err (NotATag q)) names values after A b p = (q ≡ p) × ((t : Tag) → Spells A b t → ⊥)
Fed (Err (Mismatch q)) names values after A b p = (q ≡ p) × ((t : Tag) × Spells A b t × ((x y : ℕ) × (after t ≡ differs x y)))
Fed (Err (TooDeep q)) names values after A b p = (q ≡ p) × ((t : Tag) × Spells A b t × (after t ≡ too_deep))

-- the run of bytes is read as R says
abbrev pub Progressed : Result Counts Stop → List ℕ → List ℕ → (Found Piece → Type 0) → Type 0
Progressed (Ok c) names values R =
    Holds (summary_of c names values) × R (whole (form_of (summary_of c names values)) (last_of (summary_of c names values)))
Progressed (Err (NotATag p)) names values R = R (refused no_tag p)
Progressed (Err (Mismatch p)) names values R = R (refused mismatch p)
Progressed (Err (TooDeep p)) names values R = R (refused too_many p)
