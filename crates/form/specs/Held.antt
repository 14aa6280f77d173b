-- A reduced form held in two arrays. Rules, section 6: up to 16 tags, and always one piece more than there are tags; the tags
-- stand in the string's order, ends and then starts, and piece k stands before tag k.
use Rattle.std.specs.Prelude.{◌≡◌, Bool, true, false, List, ℕ, zero, suc, ◌+◌, ◌≤◌, ◌<◌, ltb, length, get_or}
use Rattle.words.specs.Tags.{Tag, start, end}
use Rattle.words.specs.Reduced.{Stack, bottom, push}
use Rattle.pieces.specs.declared.Piece.{Piece}
use Rattle.pieces.specs.Pieces.{most_tags, pieces_long, zero_piece, piece_at, AllCounted}
use Rattle.form.specs.declared.Counts.{Counts}
use Rattle.form.specs.declared.Summary.{Summary}

-- the tag of a name
abbrev pub tag_of : Bool → ℕ → Tag
tag_of true a = end a
tag_of false a = start a

-- the tag at place k, where the first e are ends
unfoldable pub tag_at : ℕ → List ℕ → ℕ → Tag
tag_at e names k = tag_of (ltb k e) (get_or names k 0)

-- the n first tags, each with the piece before it
unfoldable pub stack_of : ℕ → List ℕ → List ℕ → ℕ → Stack Piece
stack_of e names values zero = bottom
stack_of e names values (suc k) = push (stack_of e names values k) (piece_at values k) (tag_at e names k)

-- how many tags
abbrev pub tag_count : Counts → ℕ
tag_count c = c.ends + c.starts

-- counts and two arrays as one summary
abbrev pub summary_of : Counts → List ℕ → List ℕ → Summary
summary_of c names values = record { counts = c; names = names; values = values }

-- a summary's tags, each with the piece before it, and the piece after them
abbrev pub form_of : Summary → Stack Piece
form_of s = stack_of s.counts.ends s.names s.values (tag_count s.counts)

abbrev pub last_of : Summary → Piece
last_of s = piece_at s.values (tag_count s.counts)

-- what is not used is 0: the places behind n tags and n + 1 pieces
pub record Unused (n : ℕ) (names values : List ℕ) : Type 0 where
  pub names_zero : (k : ℕ) → n ≤ k → get_or names k 0 ≡ 0
  pub values_zero : (k : ℕ) → n < k → piece_at values k ≡ zero_piece

-- the summary has room for its tags, nothing stands behind them, and each piece has 0, 1 or 2 outermost elements. How long the arrays are is
-- said too: a function does not know it of an array that it was lent
pub record Holds (s : Summary) : Type 0 where
  pub names_long : length s.names ≡ most_tags
  pub values_long : length s.values ≡ pieces_long
  pub room : tag_count s.counts ≤ most_tags
  pub unused : Unused (tag_count s.counts) s.names s.values
  pub counted : AllCounted s.values
