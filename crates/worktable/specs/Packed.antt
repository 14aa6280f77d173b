-- A worktable row as a nonterminal and its summary, and the limits of the table. Rules, section 10: the first entry has the nonterminal and
-- the two counts, the next two the tag names, a byte each, then come the 17 relations, and in the last entry their counts of outermost
-- elements, two bits each; what is not used is 0.
use Rattle.std.specs.Prelude.{◌≡◌, List, [], ◌∷◌, ◌++◌, ℕ, zero, suc, ◌+◌, ◌*◌, ◌/◌, ◌%◌, ◌^◌, ◌<◌, get_or}
use Rattle.words.specs.Reduced.{Stack}
use Rattle.pieces.specs.declared.Piece.{Piece}
use Rattle.pieces.specs.Pieces.{most_tags, most_pieces, piece, piece_at, pieces_from}
use Rattle.form.specs.Held.{summary_of, form_of, last_of, Holds}
use Rattle.form.specs.declared.Summary.{Summary}
use Rattle.trees.specs.Events.{Pair}

-- ---- limits

-- the entries before the relations, the entry behind them, and all entries of a row; the most images, and the entries of a worktable
abbrev pub row_head : ℕ
row_head = 3

abbrev pub counts_at : ℕ
counts_at = row_head + most_pieces

abbrev pub row_width : ℕ
row_width = suc counts_at

abbrev pub most_images : ℕ
most_images = 256

abbrev pub table_long : ℕ
table_long = most_images * row_width

-- ---- a row

-- n numbers from the k-th on, as a list, and in one entry, w bits each, the first lowest
unfoldable pub numbers_from : (ℕ → ℕ) → ℕ → ℕ → List ℕ
numbers_from at k zero = []
numbers_from at k (suc n) = at k ∷ numbers_from at (suc k) n

unfoldable pub digits_in : ℕ → (ℕ → ℕ) → ℕ → ℕ → ℕ
digits_in w at k zero = 0
digits_in w at k (suc n) = at k + 2 ^ w * digits_in w at (suc k) n

-- eight names from the k-th on, a byte each
abbrev pub eight_names : List ℕ → ℕ → ℕ
eight_names names k = digits_in 8 (λ i. get_or names i 0) k 8

abbrev pub relations_in : List ℕ → List ℕ
relations_in values = numbers_from (λ k. (piece_at values k).relation) 0 most_pieces

-- the counts of outermost elements, two bits each
abbrev pub outermost_in : List ℕ → ℕ
outermost_in values = digits_in 2 (λ k. (piece_at values k).outermost) 0 most_pieces

-- the row of the nonterminal x with this summary
unfoldable pub packed : ℕ → Summary → List ℕ
packed x s =
    (x + 256 * s.counts.ends + 65536 * s.counts.starts)
    ∷ eight_names s.names 0 ∷ eight_names s.names 8 ∷ (relations_in s.values ++ (outermost_in s.values ∷ []))

-- back: the nonterminal, the ends, the starts, name k, piece k
abbrev pub nonterminal_in : List ℕ → ℕ
nonterminal_in row = get_or row 0 0 % 256

abbrev pub ends_in : List ℕ → ℕ
ends_in row = get_or row 0 0 / 256 % 256

abbrev pub starts_in : List ℕ → ℕ
starts_in row = get_or row 0 0 / 65536

unfoldable pub name_in : List ℕ → ℕ → ℕ
name_in row k = get_or row (1 + k / 8) 0 / 2 ^ (k % 8 * 8) % 256

unfoldable pub piece_in : List ℕ → ℕ → Piece
piece_in row k = piece (get_or row (row_head + k) 0) (get_or row counts_at 0 / 2 ^ (k * 2) % 4)

-- what stands in the last entry above the counts of all pieces
abbrev pub above_in : List ℕ → ℕ
above_in row = get_or row counts_at 0 / 2 ^ (most_pieces * 2)

-- the summary that a row shows
abbrev pub summary_in : List ℕ → Summary
summary_in row =
    summary_of (record { ends = ends_in row; starts = starts_in row }) (numbers_from (name_in row) 0 most_tags) (pieces_from (piece_in row) 0 most_pieces)

-- the row packs the nonterminal x with the reduced form of these tags and this last piece
pub record RowOf (row : List ℕ) (x : ℕ) (form : Stack Piece) (last : Piece) : Type 0 where
  pub summary : Summary
  pub bytes : (k : ℕ) → get_or summary.names k 0 < 256
  pub small : x < 256
  pub holds : Holds summary
  pub row_is : row ≡ packed x summary
  pub form_is : form_of summary ≡ form
  pub last_is : last_of summary ≡ last

-- the row packs the pair
abbrev pub PairRow : List ℕ → Pair Piece → Type 0
PairRow row p = RowOf row p.of p.form p.last
