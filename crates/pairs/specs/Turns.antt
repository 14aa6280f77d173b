-- One pair of choices of the walk (walk/specs/Walks.antt): what is loaded of a choice, what its form does to the rows and the notes, and
-- from which choices on the walk joins. Cited by the contracts of the functions that the walk calls.
use Rattle.std.specs.Prelude.{◌≡◌, Bool, true, false, ◌&&◌, ◌||◌, Option, Some, None, List, [], ◌∷◌, ◌++◌, ℕ, suc, ◌+◌, ◌*◌, ◌≤◌, ◌<◌, eqb, length}
use Rattle.std.specs.Result.{is_err}
use Rattle.numbers.specs.Bits.{bit}
use Rattle.words.specs.Reduced.{Stack, bottom, push, tags}
use Rattle.words.specs.declared.Tag as class
use Rattle.words.specs.Reader.{Outcome, reduced, differ, join}
use Rattle.pieces.specs.declared.Piece.{Piece}
use Rattle.pieces.specs.Pieces.{most_tags, pieces}
use Rattle.form.specs.Held.{summary_of, form_of, last_of, Holds}
use Rattle.form.specs.Endings.{ending_of}
use Rattle.form.specs.declared.Counts.{Counts}
use Rattle.trees.specs.Events.{Pair}
use Rattle.rows.specs.Tables.{rows_of, table_of, among}
use Rattle.worktable.specs.Packed.{row_width, most_images, nonterminal_in, RowOf, PairRow}
use Rattle.pairs.specs.Books.{table_row}
use Rattle.pairs.specs.Slots.{tag_in}
use Rattle.pairs.specs.declared.Slot.{Slot}
use Rattle.pairs.specs.declared.Slot.TheVariants.{Absent, Single, Rows}
use Rattle.pairs.specs.declared.Selection.{Selection}
use Rattle.pairs.specs.declared.Notes.{Notes}
use Rattle.pairs.specs.declared.Tally.{Tally}

-- ---- which choices are joined

-- no row of another nonterminal
unfoldable pub slot_fits : Slot → ℕ → List ℕ → Bool
slot_fits Absent k t = true
slot_fits (Single a) k t = true
slot_fits (Rows x) k t = eqb (nonterminal_in (table_row t k)) x

-- the left choices of a rule: none where no nonterminal is marked for it
abbrev pub lefts_of : Bool → ℕ → ℕ
lefts_of true lefts = lefts
lefts_of false lefts = 0

-- the first left choice that is walked, where some right choice is new or none is
abbrev pub left_from : Bool → ℕ → ℕ
left_from true new_left = 0
left_from false new_left = new_left

-- the first right choice that is joined with a left choice that fits or not and is old or not
abbrev pub right_from : Bool → Bool → ℕ → ℕ → ℕ
right_from false old new_right rights = rights
right_from true true new_right rights = new_right
right_from true false new_right rights = 0

-- ---- a choice's form in two arrays

-- a choice that is a row stands in the table and packs some pair
abbrev pub SomePairRow : List ℕ → Type 0
SomePairRow row = (p : Pair Piece) × PairRow row p

abbrev pub Choosable : List ℕ → Slot → ℕ → Type 0
Choosable t Absent k = Unit {0}
Choosable t (Single a) k = Unit {0}
Choosable t (Rows x) k = (k * row_width + row_width ≤ length t) × SomePairRow (table_row t k)

-- a tag's own form
abbrev pub TagForm : Piece → class.Tag → Stack Piece → Piece → Type 0
TagForm empty a form last = (form ≡ push bottom empty (tag_in a)) × (last ≡ empty)

-- the form of choice k of a slot, where there is such a choice
abbrev pub FormOf : Piece → List ℕ → Slot → ℕ → Stack Piece → Piece → Type 0
FormOf empty t Absent k form last = (form ≡ bottom) × (last ≡ empty)
FormOf empty t (Single a) k form last = TagForm empty a form last
FormOf empty t (Rows x) k form last = RowOf (table_row t k) x form last

-- the arrays hold a form that is C, or no form is
abbrev pub Loads : (Stack Piece → Piece → Type 0) → Option Counts → List ℕ → List ℕ → Type 0
Loads C (Some c) names values =
    Holds (summary_of c names values) × C (form_of (summary_of c names values)) (last_of (summary_of c names values))
Loads C None names values = (form : Stack Piece) (last : Piece) → C form last → ⊥

-- ---- what a form does to the rows and the notes

-- a form of the start that is no page's
unfoldable pub invalid_form : List ℕ → Pair Piece → Bool
invalid_form lore p = eqb p.of 0 && is_err (ending_of lore p.form p.last)

-- the notes with a pair
abbrev pub after_pair : List ℕ → Pair Piece → Notes → Bool → Notes
after_pair lore p notes crowded =
    record { invalid = notes.invalid || invalid_form lore p; deep = notes.deep; crowded = crowded }

-- a pair of at most 16 tags: its row stands among those there are, finds no room, or goes behind them; where one found no room before, it is
-- not looked for
pub data PairNoted (lore : List ℕ) (p : Pair Piece) (t : List ℕ) (found : Tally) : Tally → List ℕ → Type 0 where
  was_crowded : found.notes.crowded ≡ true
      → PairNoted lore p t found (record { rows = found.rows; notes = after_pair lore p found.notes true }) t
  stands : (row : List ℕ) → PairRow row p → among row (rows_of row_width found.rows t) ≡ true
      → PairNoted lore p t found (record { rows = found.rows; notes = after_pair lore p found.notes found.notes.crowded }) t
  finds_no_room : (row : List ℕ) → PairRow row p → among row (rows_of row_width found.rows t) ≡ false → most_images ≤ found.rows
      → PairNoted lore p t found (record { rows = found.rows; notes = after_pair lore p found.notes true }) t
  goes_behind : (row t' : List ℕ) → PairRow row p → among row (rows_of row_width found.rows t) ≡ false → found.rows < most_images
      → t' ≡ table_of (rows_of row_width found.rows t ++ (row ∷ [])) t
      → PairNoted lore p t found
      (record { rows = found.rows + 1; notes = after_pair lore p found.notes found.notes.crowded }) t'

-- a form of each marked nonterminal below n, in turn
pub data FormsNoted (lore : List ℕ) (marks : ℕ) (s : Stack Piece) (c : Piece) (t : List ℕ) (found : Tally) : ℕ → Tally → List ℕ → Type 0 where
  forms_none : FormsNoted lore marks s c t found 0 found t
  forms_other : {x : ℕ} {r : Tally} {t' : List ℕ} → FormsNoted lore marks s c t found x r t' → bit marks x ≡ false
      → FormsNoted lore marks s c t found (suc x) r t'
  forms_more : {x : ℕ} {r r' : Tally} {t' t'' : List ℕ} → FormsNoted lore marks s c t found x r t' → bit marks x ≡ true
      → PairNoted lore (record { of = x; form = s; last = c }) t' r r' t'' → FormsNoted lore marks s c t found (suc x) r' t''

-- the notes after more than 16 tags of every marked nonterminal: a string of the start, nonterminal 0, is no page then
abbrev pub after_deep : ℕ → Notes → Notes
after_deep marks notes = record { invalid = notes.invalid || bit marks 0; deep = true; crowded = notes.crowded }

-- an outcome of every marked nonterminal: a mismatch, more than 16 tags, or a form of at most 16
pub data OutcomeNoted (lore : List ℕ) (marks : ℕ) (o : Outcome Piece) (t : List ℕ) (found : Tally) : Option Tally → List ℕ → Type 0 where
  mismatches : (a b : ℕ) → o ≡ differ a b → OutcomeNoted lore marks o t found None t
  is_deep : (s : Stack Piece) (c : Piece) → o ≡ reduced s c → most_tags < tags s
      → OutcomeNoted lore marks o t found (Some (record { rows = found.rows; notes = after_deep marks found.notes })) t
  is_form : (s : Stack Piece) (c : Piece) (r : Tally) (t' : List ℕ) → o ≡ reduced s c → tags s ≤ most_tags
      → FormsNoted lore marks s c t found 64 r t' → OutcomeNoted lore marks o t found (Some r) t'

-- a pair of choices under rules of every marked nonterminal: no forms, and nothing changes; or they are joined, once for all
module _ (lore t : List ℕ) (pair : Selection) (marks : ℕ) (found : Tally) where
  abbrev pub LeftForm : Stack Piece → Piece → Type 0
  LeftForm s c = FormOf (pieces lore).unit t pair.left pair.j s c

  abbrev pub RightForm : Stack Piece → Piece → Type 0
  RightForm s c = FormOf (pieces lore).unit t pair.right pair.k s c

  pub data Turned : Option Tally → List ℕ → Type 0 where
    no_forms : ((s : Stack Piece) (c : Piece) (u : Stack Piece) (d : Piece) → LeftForm s c → RightForm u d → ⊥) → Turned (Some found) t
    joined : (s : Stack Piece) (c : Piece) (u : Stack Piece) (d : Piece) (r : Option Tally) (t' : List ℕ) → LeftForm s c → RightForm u d
        → OutcomeNoted lore marks (join (pieces lore) (reduced s c) u d) t found r t' → Turned r t'
