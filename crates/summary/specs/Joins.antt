-- What the replies of a join and of a net depth must be. Rules, sections 6, 7 and 9: both refuse with 7, then 15, and a join further with 11,
-- then 12. Any two summaries under the file are joined by the same steps, whether or not some fragment has them.
use Rattle.std.specs.Prelude.{◌≡◌, List, ℕ, ◌≤◌, ◌<◌, ℤ, Result, Ok, Err}
use Rattle.words.specs.Reduced.{Stack, tags, net}
use Rattle.words.specs.Reader.{Outcome, reduced, differ, join}
use Rattle.template.specs.Layout.{name_count, states}
use Rattle.template.specs.Order.{IsSound, reading, faulty}
use Rattle.pieces.specs.declared.Piece.{Piece}
use Rattle.pieces.specs.Pieces.{most_tags}
use Rattle.form.specs.Held.{form_of, last_of}
use Rattle.form.specs.declared.Summary.{Summary}
use Rattle.summary.specs.declared.JoinRefusal.{JoinRefusal}
use Rattle.summary.specs.declared.JoinRefusal.TheVariants as joined
use Rattle.summary.specs.declared.DepthRefusal.{DepthRefusal}
use Rattle.summary.specs.declared.DepthRefusal.TheVariants as depth
use Rattle.summary.specs.Replies.{JoinReply}
use Rattle.summary.specs.Packing.{Packs, IsSummary, zeros}
use Rattle.schema.specs.Schemas.{binoid_of}

-- a summary under the file
abbrev pub SummaryUnder : List ℕ → Summary → Type 0
SummaryUnder f s = IsSummary (name_count f) (states f) s

abbrev pub BothSummaries : List ℕ → Summary → Summary → Type 0
BothSummaries f left right = IsSound f × SummaryUnder f left × SummaryUnder f right

-- the rules of joining on the tags and pieces of two summaries
abbrev pub outcome_of : List ℕ → Summary → Summary → Outcome Piece
outcome_of f left right = join (binoid_of f) (reduced (form_of left) (last_of left)) (form_of right) (last_of right)

abbrev pub JoinAnswers : List ℕ → Summary → Summary → Result Unit JoinRefusal → Summary → Type 0
JoinAnswers f left right (Ok _) s =
    BothSummaries f left right
    × ((t : Stack Piece) × (c : Piece) × (outcome_of f left right ≡ reduced t c) × (tags t ≤ most_tags) × Packs s t c)
JoinAnswers f left right (Err (joined.BadFile p)) s = (reading f ≡ faulty p) × (s ≡ zeros)
JoinAnswers f left right (Err joined.NoSummary) s = IsSound f × (SummaryUnder f left → SummaryUnder f right → ⊥) × (s ≡ zeros)
JoinAnswers f left right (Err joined.Mismatch) s =
    BothSummaries f left right × ((a b : ℕ) × (outcome_of f left right ≡ differ a b)) × (s ≡ zeros)
JoinAnswers f left right (Err joined.TooDeep) s =
    BothSummaries f left right × ((t : Stack Piece) × (c : Piece) × (outcome_of f left right ≡ reduced t c) × (most_tags < tags t)) × (s ≡ zeros)

abbrev pub JoinSays : List ℕ → Summary → Summary → JoinReply → Type 0
JoinSays f left right r = JoinAnswers f left right r.answer r.summary

abbrev pub DepthSays : List ℕ → Summary → Result ℤ DepthRefusal → Type 0
DepthSays f s (Ok z) = IsSound f × SummaryUnder f s × (z ≡ net (form_of s))
DepthSays f s (Err (depth.BadFile p)) = reading f ≡ faulty p
DepthSays f s (Err depth.NoSummary) = IsSound f × (SummaryUnder f s → ⊥)
