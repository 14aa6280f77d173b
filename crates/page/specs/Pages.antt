-- What a page's reply must be. Rules, sections 7 and 9: 7 for a bad file; 10, 11 or 12 where the reading ends, as for a fragment; then the
-- two tests of a whole page: 13 where some tags have no partner, 14 where all have but state 0 does not derive it, or it has not exactly one
-- outermost element. Else it is valid, in the sense of section 3.
use Rattle.std.specs.Prelude.{◌≡◌, List, ℕ, Result, Ok, Err}
use Rattle.words.specs.Tags.{Tag}
use Rattle.words.specs.Balance.{Balanced}
use Rattle.hedge.specs.Schema.{Valid as IsValid}
use Rattle.pieces.specs.Pieces.{most_tags}
use Rattle.template.specs.Layout.{name_count}
use Rattle.template.specs.Order.{IsSound, reading, faulty}
use Rattle.reader.specs.Reads.{Spelled, AllReadable, refused, no_tag, mismatch, too_many}
use Rattle.schema.specs.Schemas.{schema_of, binoid_of}
use Rattle.summary.specs.Fragments.{ReadUnder}
use Rattle.form.specs.declared.Flaw.{Flaw}
use Rattle.form.specs.declared.Flaw.TheVariants as flaw
use Rattle.reader.specs.declared.Stop.{Stop}
use Rattle.reader.specs.declared.Stop.TheVariants as stop
use Rattle.page.specs.declared.PageRefusal.{PageRefusal}
use Rattle.page.specs.declared.PageRefusal.TheVariants.{BadFile, NotATag, Mismatch, TooDeep, Unmatched, NotDerived}

-- nothing is refused while the bytes are read, and they spell a word of which P holds
abbrev pub ReadWhole : List ℕ → List ℕ → (List Tag → Type 0) → Type 0
ReadWhole f bytes P =
    IsSound f × AllReadable (name_count f) (binoid_of f) most_tags bytes × ((w : List Tag) × Spelled (name_count f) bytes w × P w)

-- valid, or why not
abbrev pub PageReply : Type 0
PageReply = Result Unit PageRefusal

abbrev pub PageSays : List ℕ → List ℕ → PageReply → Type 0
PageSays f bytes (Ok _) = ReadWhole f bytes (λ w. IsValid (schema_of f) w)
PageSays f bytes (Err (BadFile p)) = reading f ≡ faulty p
PageSays f bytes (Err (NotATag p)) = IsSound f × ReadUnder f bytes (refused no_tag p)
PageSays f bytes (Err (Mismatch p)) = IsSound f × ReadUnder f bytes (refused mismatch p)
PageSays f bytes (Err (TooDeep p)) = IsSound f × ReadUnder f bytes (refused too_many p)
PageSays f bytes (Err Unmatched) = ReadWhole f bytes (λ w. Balanced w → ⊥)
PageSays f bytes (Err NotDerived) = ReadWhole f bytes (λ w. Balanced w × (IsValid (schema_of f) w → ⊥))

-- what ended the reading, as the page's refusal
abbrev pub stopped : Stop → PageRefusal
stopped (stop.NotATag p) = NotATag p
stopped (stop.Mismatch p) = Mismatch p
stopped (stop.TooDeep p) = TooDeep p

-- what the two tests at the end say, as a reply

abbrev pub flawed : Flaw → PageRefusal
flawed flaw.Unmatched = Unmatched
flawed flaw.NotDerived = NotDerived

abbrev pub tested : Result Unit Flaw → Result Unit PageRefusal
tested (Ok _) = Ok tt
tested (Err e) = Err (flawed e)

-- the reply in numbers (Rules, section 9)
abbrev pub answer : PageReply → ℕ
answer (Ok _) = 0
answer (Err (BadFile p)) = 7
answer (Err (NotATag p)) = 10
answer (Err (Mismatch p)) = 11
answer (Err (TooDeep p)) = 12
answer (Err Unmatched) = 13
answer (Err NotDerived) = 14

abbrev pub number : PageReply → ℕ
number (Ok _) = 0
number (Err (BadFile p)) = p
number (Err (NotATag p)) = p
number (Err (Mismatch p)) = p
number (Err (TooDeep p)) = p
number (Err Unmatched) = 0
number (Err NotDerived) = 0
