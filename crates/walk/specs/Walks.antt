-- One round's walk: the rules, and for each the pairs of images on its right side. Rules, section 8: only a mismatch ends it at once.
-- Invalid pages, strings that are too deep and images past 256 are noted, and the walk goes on. The book's rows
-- are the images before the round; what the walk finds new goes behind them.
use Rattle.std.specs.Prelude.{◌≡◌, true, false, Option, Some, None, Ok, List, ℕ, ◌≤◌, ◌<◌, length, drop}
use Rattle.words.specs.Reduced.{Stack, tags, GoodStack}
use Rattle.words.specs.Reader.{Outcome, reduced, differ}
use Rattle.lore.specs.Lore.{states_in}
use Rattle.pieces.specs.declared.Piece.{Piece}
use Rattle.pieces.specs.Pieces.{most_tags, pieces, PieceWithin}
use Rattle.form.specs.Endings.{ending_of}
use Rattle.template.specs.Grammar.{Gives}
use Rattle.trees.specs.Trees.{Useful}
use Rattle.trees.specs.Events.{Pair}
use Rattle.trees.specs.Results.{Result}
use Rattle.worktable.specs.Packed.{most_images, table_long, PairRow}
use Rattle.pairs.specs.Books.{Book, book_of, table_row, Tabled}
use Rattle.pairs.specs.declared.Notes.{Notes}
use Rattle.pairs.specs.declared.Tally.{Tally}
use Rattle.walk.specs.declared.Round.{Round}

-- a page's form
abbrev pub ValidForm : List ℕ → Stack Piece → Piece → Type 0
ValidForm lore s c = ending_of lore s c ≡ Ok tt

module _ (lore rules : List ℕ) where
  -- what the rules make of the pairs in a book
  abbrev pub ResultOver : Book → ℕ → Outcome Piece → Type 0
  ResultOver b x o = Result (pieces lore) (Tabled b) (Gives rules) x o

  -- the pair is of a useful nonterminal, and its pieces stay within the states
  pub record ProperPair (p : Pair Piece) : Type 0 where
    pub useful : Useful (Gives rules) p.of
    pub good_form : GoodStack (PieceWithin (states_in lore)) p.form
    pub good_last : PieceWithin (states_in lore) p.last

  -- the rows of a book are those of different proper pairs
  pub record ProperRows (b : Book) : Type 0 where
    pub room : table_long ≤ length b.table
    pub few : b.rows ≤ most_images
    pub proper : (k : ℕ) → k < b.rows → (p : Pair Piece) × PairRow (table_row b.table k) p × ProperPair p
    pub different : (j k : ℕ) → j < b.rows → k < b.rows → table_row b.table j ≡ table_row b.table k → j ≡ k

  -- an outcome of x that meets no event, and whose pair stands in the book
  abbrev pub Eventless : Book → ℕ → Outcome Piece → Type 0
  Eventless b x o =
      (s : Stack Piece) × (c : Piece) × (o ≡ reduced s c) × (tags s ≤ most_tags) × Tabled b (record { of = x; form = s; last = c })
      × (x ≡ 0 → ValidForm lore s c)

  -- a round begins: the first rows were there two rounds ago, and what the rules made of them met no event; in the first round there are no
  -- rows
  pub record RoundBegins (t : List ℕ) (round : Round) : Type 0 where
    pub older : round.prev ≤ round.rows
    pub nothing_yet : round.first ≡ true → round.rows ≡ 0
    pub settled : round.first ≡ false → (x : ℕ) (o : Outcome Piece) → ResultOver (book_of t round.prev) x o
        → Eventless (book_of t round.rows) x o

  -- an outcome of x as the notes and the book have it
  pub record Noted (notes : Notes) (b : Book) (x : ℕ) (o : Outcome Piece) : Type 0 where
    pub form : Stack Piece
    pub last : Piece
    pub reduces : o ≡ reduced form last
    pub deep_noted : most_tags < tags form → notes.deep ≡ true
    pub stands : tags form ≤ most_tags → notes.crowded ≡ false → Tabled b (record { of = x; form = form; last = last })
    pub valid : x ≡ 0 → notes.invalid ≡ false → ValidForm lore form last

  -- what the notes say happened, among outcomes for which R holds
  pub record Happened (R : ℕ → Outcome Piece → Type 0) (notes : Notes) (b : Book) : Type 0 where
    pub invalid_page : notes.invalid ≡ true → (s : Stack Piece) × (c : Piece) × R 0 (reduced s c) × (ValidForm lore s c → ⊥)
    pub too_deep : notes.deep ≡ true → (x : ℕ) × (s : Stack Piece) × (c : Piece) × R x (reduced s c) × (most_tags < tags s)
    pub past_room : notes.crowded ≡ true
        → (b.rows ≡ most_images) × ((x : ℕ) × (s : Stack Piece) × (c : Piece) × R x (reduced s c) × (tags s ≤ most_tags)
        × (Tabled b (record { of = x; form = s; last = c }) → ⊥))

  -- the book b' has the rows of b, and behind them rows of outcomes for which R holds; past the table nothing changed
  pub record Grown (R : ℕ → Outcome Piece → Type 0) (b b' : Book) : Type 0 where
    pub same_length : length b'.table ≡ length b.table
    pub same_rest : drop table_long b'.table ≡ drop table_long b.table
    pub more : b.rows ≤ b'.rows
    pub proper_rows : ProperRows b'
    pub same_rows : (k : ℕ) → k < b.rows → table_row b'.table k ≡ table_row b.table k
    pub found : (k : ℕ) → b.rows ≤ k → k < b'.rows
        → (p : Pair Piece) × PairRow (table_row b'.table k) p × R p.of (reduced p.form p.last) × (tags p.form ≤ most_tags)

  -- the walk's tally, or none where a mismatch stopped it, and the table after it
  abbrev pub Walked : Book → Option Tally → List ℕ → Type 0
  Walked b None t' =
      (length t' ≡ length b.table) × (drop table_long t' ≡ drop table_long b.table) × ((x a c : ℕ) × ResultOver b x (differ a c))
  Walked b (Some tally) t' =
      Grown (ResultOver b) b (book_of t' tally.rows)
      × Happened (ResultOver b) tally.notes (book_of t' tally.rows)
      × ((x : ℕ) (o : Outcome Piece) → ResultOver b x o → Noted tally.notes (book_of t' tally.rows) x o)
