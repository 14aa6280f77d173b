-- The value of a piece: what a reduced form has before, between and after its tags. Rules, section 6: its relation, and beside it the count
-- of its outermost elements. A form's pieces stand in one flat list of numbers, and only this file and its laws know how.
use Rattle.std.specs.Prelude.{refl, Bool, ◌&&◌, List, [], ◌∷◌, ℕ, zero, suc, ◌+◌, ◌*◌, ◌≤◌, eqb, leb, get_or, set}
use Rattle.words.specs.Binoid.{Binoid}
use Rattle.words.specs.Outermost.{several, outermost, Sides, beside}
use Rattle.hedge.specs.Relation.{Within}
use Rattle.hedge.specs.Operations.{unit, compose, wrap, full, covers, accepts}
use Rattle.hedge.specs.Schema.{most_states}
use Rattle.lore.specs.Lore.{states_in, empty_in, taught_wrap, taught_accepts}
use Rattle.pieces.specs.declared.Piece.{Piece}

-- ---- limits

-- the most tags of a form, its pieces, one more than tags, and the entries that they take: two each
abbrev pub most_tags : ℕ
most_tags = 16

abbrev pub most_pieces : ℕ
most_pieces = suc most_tags

abbrev pub piece_long : ℕ
piece_long = 2

abbrev pub pieces_long : ℕ
pieces_long = most_pieces * piece_long

-- ---- pieces in a list

abbrev pub piece : ℕ → ℕ → Piece
piece r n = record { relation = r; outermost = n }

abbrev pub zero_piece : Piece
zero_piece = piece 0 0

-- piece k, and the list with another piece there
unfoldable pub piece_at : List ℕ → ℕ → Piece
piece_at pieces k = piece (get_or pieces (k * piece_long) 0) (get_or pieces (k * piece_long + 1) 0)

unfoldable pub put_piece : List ℕ → ℕ → Piece → List ℕ
put_piece pieces k p = set (set pieces (k * piece_long) p.relation) (k * piece_long + 1) p.outermost

-- the list of these pieces, n from the k-th on
unfoldable pub pieces_from : (ℕ → Piece) → ℕ → ℕ → List ℕ
pieces_from at k zero = []
pieces_from at k (suc n) = (at k).relation ∷ (at k).outermost ∷ pieces_from at (suc k) n

-- ---- the binoid of pieces

-- a piece is a relation and a count beside it
abbrev pub sides : Sides Piece ℕ ℕ
sides =
    record {
      left = λ p. p.relation;
      right = λ p. p.outermost;
      both = piece;
      left_both = λ r n. refl;
      right_both = λ r n. refl;
      both_sides = λ p. refl;
    }

-- the operations on relations, and those on counts beside them
abbrev pub lifted : ℕ → (ℕ → ℕ → ℕ) → (ℕ → ℕ → ℕ) → Binoid
lifted empty follow around = beside (record { H = ℕ; unit = empty; compose = follow; wrap = around }) outermost sides

-- of a schema: its states, rules and ending states
abbrev pub pieces_of : ℕ → List ℕ → List ℕ → Binoid
pieces_of q rules ends = lifted (unit most_states q) (compose most_states q) (wrap most_states rules ends)

-- as a lore has it
abbrev pub pieces : List ℕ → Binoid
pieces lore = lifted (empty_in lore) (compose most_states (states_in lore)) (taught_wrap most_states lore)

-- a count is 0, 1, or 2 for more
abbrev pub Counted : Piece → Type 0
Counted p = p.outermost ≤ several

abbrev pub AllCounted : List ℕ → Type 0
AllCounted pieces = (k : ℕ) → Counted (piece_at pieces k)

-- no bit of a state past q, and a count
abbrev pub PieceWithin : ℕ → Piece → Type 0
PieceWithin q p = Within most_states q p.relation × Counted p

-- the same as a test, against the relation of all pairs
unfoldable pub fits_in : ℕ → Piece → Bool
fits_in q p = covers (full most_states q) p.relation && leb p.outermost several

-- what stands at an unused place
unfoldable pub is_none : Piece → Bool
is_none p = eqb p.relation 0 && eqb p.outermost 0

-- state 0 derives a word of this piece, and it is one element: by the ending states, and as a lore has it
unfoldable pub accepted : List ℕ → Piece → Bool
accepted ends p = accepts most_states ends p.relation && eqb p.outermost 1

unfoldable pub accepts_piece : List ℕ → Piece → Bool
accepts_piece lore p = taught_accepts most_states lore p.relation && eqb p.outermost 1
