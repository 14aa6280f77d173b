-- What holds while the walk goes on (specs/Walks.antt): the book has grown by outcomes for which R holds, the notes tell what happened
-- among them, and every outcome seen so far is noted. It holds at the start, and what is noted stays noted, since rows and notes only
-- grow. Assumes nothing.
use mathlib.Core.Path.{◌≡◌, refl}
use mathlib.Core.Bool.{true, false, false≢true}
use mathlib.Core.List.{List}
use Prim.Native.Nat.{ℕ, ◌≤◌, ◌<◌}
use native.Mathlib.Omega.{arith}
use Rattle.words.specs.Reader.{Outcome}
use Rattle.pieces.specs.declared.Piece.{Piece}
use Rattle.trees.specs.Events.{Pair}
use Rattle.pairs.specs.Books.{Book, book_of, table_row, Tabled}
use Rattle.pairs.specs.declared.Notes.{Notes}
use Rattle.pairs.specs.declared.Tally.{Tally}
use Rattle.walk.specs.Walks.{ProperRows, Eventless, Noted, Happened, Grown}

-- n rows, and nothing noted
abbrev pub no_notes : ℕ → Tally
no_notes n = record { rows = n; notes = record { invalid = false; deep = false; crowded = false } }

-- a table with a tally's rows
abbrev pub tally_book : List ℕ → Tally → Book
tally_book t found = book_of t found.rows

-- rows that are the same stand still where there are no fewer
pub tabled_later : (b b' : Book) → b.rows ≤ b'.rows → ((k : ℕ) → k < b.rows → table_row b'.table k ≡ table_row b.table k)
    → (p : Pair Piece) → Tabled b p → Tabled b' p
tabled_later b b' l same p (k, h, r) = (k, omega arith, rw (same k h) r)

-- notes that stay, and pairs that still stand
pub record Later (notes notes' : Notes) (b b' : Book) : Type 0 where
  pub invalid_stays : notes'.invalid ≡ false → notes.invalid ≡ false
  pub deep_stays : notes.deep ≡ true → notes'.deep ≡ true
  pub crowded_stays : notes'.crowded ≡ false → notes.crowded ≡ false
  pub rows_stay : (p : Pair Piece) → Tabled b p → Tabled b' p

module _ {lore rules : List ℕ} where
  pub noted_later : {notes notes' : Notes} {b b' : Book} {x : ℕ} {o : Outcome Piece} → Later notes notes' b b'
      → Noted lore rules notes b x o → Noted lore rules notes' b' x o
  noted_later {x = x} l w =
      record {
        form = w.form;
        last = w.last;
        reduces = w.reduces;
        deep_noted = λ h. l.deep_stays (w.deep_noted h);
        stands = λ h f. l.rows_stay (record { of = x; form = w.form; last = w.last }) (w.stands h (l.crowded_stays f));
        valid = λ z f. w.valid z (l.invalid_stays f);
      }

-- what met no event is noted as long as its row stands
pub eventless_noted : (lore rules : List ℕ) (notes : Notes) (b b' : Book) (x : ℕ) (o : Outcome Piece) → b.rows ≤ b'.rows
    → ((k : ℕ) → k < b.rows → table_row b'.table k ≡ table_row b.table k) → Eventless lore rules b x o
    → Noted lore rules notes b' x o
eventless_noted lore rules notes b b' x o l same (s, c, e, h, w, v) =
    record {
      form = s;
      last = c;
      reduces = e;
      deep_noted = λ g. absurd (omega arith);
      stands = λ g f. tabled_later b b' l same (record { of = x; form = s; last = c }) w;
      valid = λ z f. v z;
    }

-- ---- so far: outcomes of R went in, and those of Seen are noted
pub record Sofar (lore rules : List ℕ) (R Seen : ℕ → Outcome Piece → Type 0) (b : Book) (t : List ℕ) (found : Tally) : Type 0 where
  pub grown : Grown lore rules R b (tally_book t found)
  pub happened : Happened lore rules R found.notes (tally_book t found)
  pub seen : (x : ℕ) (o : Outcome Piece) → Seen x o → Noted lore rules found.notes (tally_book t found) x o

pub sofar_start : (lore rules : List ℕ) (R Seen : ℕ → Outcome Piece → Type 0) (b : Book) → ProperRows lore rules b
    → ((x : ℕ) (o : Outcome Piece) → Seen x o → ⊥) → Sofar lore rules R Seen b b.table (no_notes b.rows)
sofar_start lore rules R Seen b proper none =
    record {
      grown = record {
        same_length = refl;
        same_rest = refl;
        more = omega arith;
        proper_rows = proper;
        same_rows = λ k l. refl;
        found = λ k l h. absurd (omega arith);
      };
      happened = record {
        invalid_page = λ e. absurd (false≢true e);
        too_deep = λ e. absurd (false≢true e);
        past_room = λ e. absurd (false≢true e);
      };
      seen = λ x o v. absurd (none x o v);
    }

-- other outcomes, if they are noted too
pub sofar_seen : {lore rules : List ℕ} {R Seen Other : ℕ → Outcome Piece → Type 0} {b : Book} {t : List ℕ} {found : Tally}
    → Sofar lore rules R Seen b t found
    → ((x : ℕ) (o : Outcome Piece) → Other x o → Noted lore rules found.notes (tally_book t found) x o)
    → Sofar lore rules R Other b t found
sofar_seen p f = record { grown = p.grown; happened = p.happened; seen = f }
