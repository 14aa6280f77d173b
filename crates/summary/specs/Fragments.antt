-- What a fragment's reply must be. Rules, sections 7 and 9: 7 for a bad file; else 10, 11 or 12 where the reading ends; else the
-- summary, which is the source's reduced form and nothing else (section 12). A refusal's summary is zeros throughout.
use Rattle.std.specs.Prelude.{◌≡◌, List, ℕ, Result, Ok, Err}
use Rattle.words.specs.Reduced.{Stack}
use Rattle.pieces.specs.declared.Piece.{Piece}
use Rattle.pieces.specs.Pieces.{most_tags}
use Rattle.template.specs.Layout.{name_count}
use Rattle.template.specs.Order.{IsSound, reading, faulty}
use Rattle.schema.specs.Schemas.{binoid_of}
use Rattle.form.specs.declared.Summary.{Summary}
use Rattle.reader.specs.declared.Stop.{Stop}
use Rattle.reader.specs.declared.Stop.TheVariants as stop
use Rattle.summary.specs.declared.FragmentRefusal.{FragmentRefusal}
use Rattle.summary.specs.declared.FragmentRefusal.TheVariants.{BadFile, NotATag, Mismatch, TooDeep}
use Rattle.summary.specs.Replies.{FragmentReply}
use Rattle.summary.specs.Packing.{Packs, zeros}
use Rattle.reader.specs.Reads.{Reads, Found, whole, refused, no_tag, mismatch, too_many}

-- what reading the bytes under the file finds
abbrev pub ReadUnder : List ℕ → List ℕ → Found Piece → Type 0
ReadUnder f bytes found = Reads (name_count f) (binoid_of f) most_tags bytes found

abbrev pub FragmentAnswers : List ℕ → List ℕ → Result Unit FragmentRefusal → Summary → Type 0
FragmentAnswers f bytes (Ok _) s = IsSound f × ((t : Stack Piece) × (c : Piece) × ReadUnder f bytes (whole t c) × Packs s t c)
FragmentAnswers f bytes (Err (BadFile p)) s = (reading f ≡ faulty p) × (s ≡ zeros)
FragmentAnswers f bytes (Err (NotATag p)) s = IsSound f × ReadUnder f bytes (refused no_tag p) × (s ≡ zeros)
FragmentAnswers f bytes (Err (Mismatch p)) s = IsSound f × ReadUnder f bytes (refused mismatch p) × (s ≡ zeros)
FragmentAnswers f bytes (Err (TooDeep p)) s = IsSound f × ReadUnder f bytes (refused too_many p) × (s ≡ zeros)

abbrev pub FragmentSays : List ℕ → List ℕ → FragmentReply → Type 0
FragmentSays f bytes r = FragmentAnswers f bytes r.answer r.summary

-- the same over what reading finds, before a file is named
abbrev pub FragmentFinds : (Found Piece → Type 0) → Result Summary Stop → Type 0
FragmentFinds R (Ok s) = (t : Stack Piece) × (c : Piece) × R (whole t c) × Packs s t c
FragmentFinds R (Err (stop.NotATag p)) = R (refused no_tag p)
FragmentFinds R (Err (stop.Mismatch p)) = R (refused mismatch p)
FragmentFinds R (Err (stop.TooDeep p)) = R (refused too_many p)
