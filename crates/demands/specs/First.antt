-- Demand 1 (Rules, section 12): each public call gives one of its numbered answers, in the fixed order and with the number that belongs
-- to it, and leaves lent memory as promised. What is said here is said of the answer, the number and what was lent before and after, so
-- that it can be said of a call in Rattle and of a call from C alike (specs/Calls.antt). That every call ends on any input is the theorem
-- of each function of src/lib.rt, none of which has a `requires`.
use Rattle.std.specs.Prelude.{◌≡◌, ◌↔◌, ◌⊎◌, ℕ, ◌≤◌, ◌<◌, ℤ, pos, length, drop, replicate}
use mathlib.Core.List.{List, [], ◌∷◌, ◌++◌, Memᴰ}
use Rattle.words.specs.Balance.{Balanced}
use Rattle.words.specs.Reduced.{Stack, tags}
use Rattle.words.specs.Reader.{reduced, differ}
use Rattle.hedge.specs.Schema.{Valid}
use Rattle.pieces.specs.declared.Piece.{Piece}
use Rattle.pieces.specs.Pieces.{most_tags}
use Rattle.template.specs.Order.{IsSound, reading, answer, number}
use Rattle.schema.specs.Schemas.{schema_of}
use Rattle.reader.specs.Reads.{refused, no_tag, mismatch, too_many}
use Rattle.form.specs.declared.Summary.{Summary}
use Rattle.summary.specs.Fragments.{ReadUnder}
use Rattle.summary.specs.Joins.{SummaryUnder, BothSummaries, outcome_of}
use Rattle.page.specs.Pages.{ReadWhole}
use Rattle.worktable.specs.Packed.{row_width, table_long}
use Rattle.rounds.specs.Checks.{HasPage, Rows, Lent, most_rounds, after_pass, zeroed}
use Rattle.ujthanor.specs.Calls.{short_row}

-- ---- the file

-- 7 is given exactly where the file is not sound, with the place of its first fault
pub record FileFirst (f : List ℕ) (a n : ℕ) : Type 0 where
  pub bad_file : (a ≡ 7) ↔ (IsSound f → ⊥)
  pub place : a ≡ 7 → (answer (reading f) ≡ 7) × (n ≡ number (reading f))

-- ---- a check: the answer a, the number n, the images m

-- 9, 8, 7, 6, then rounds: each refusal is given exactly where none before it is due
pub record CheckOrder (f t : List ℕ) (budget a n m : ℕ) : Type 0 where
  pub numbered : a ≤ 9
  pub short_first : (a ≡ 9) ↔ (length t < table_long)
  pub then_budget : (a ≡ 8) ↔ ((table_long ≤ length t) × ((1 ≤ budget) × (budget ≤ most_rounds) → ⊥))
  pub then_file : (a ≡ 7) ↔ (Lent f t budget × (IsSound f → ⊥))
  pub then_page : (a ≡ 6) ↔ (Lent f t budget × IsSound f × (HasPage f → ⊥))
  pub file_place : a ≡ 7 → (answer (reading f) ≡ 7) × (n ≡ number (reading f))
  pub no_number : (a ≡ 6) ⊎ (a ≡ 8) ⊎ (a ≡ 9) → n ≡ 0
  pub no_images : 1 ≤ a → m ≡ 0

-- what a check leaves in the worktable: after a pass the rows of the images, ascending, then zeros
pub record Worktable (f t : List ℕ) (a n m : ℕ) (t' : List ℕ) : Type 0 where
  pub refused_unchanged : 6 ≤ a → t' ≡ t
  pub ended_zero : 1 ≤ a → a ≤ 5 → t' ≡ zeroed t
  pub passed_rows : a ≡ 0 → (rows : List (List ℕ)) × Rows f n rows × (m ≡ length rows) × (t' ≡ after_pass rows t)
  pub rest_unchanged : drop table_long t' ≡ drop table_long t
  pub same_length : length t' ≡ length t

-- ---- a page or fragment: the answer a, the number n

-- 7, then the earliest place with 10, 11 or 12
pub record ReadOrder (f bytes : List ℕ) (a n : ℕ) : Type 0 where
  pub file_first : FileFirst f a n
  pub not_a_tag : (p : ℕ) → ((a ≡ 10) × (n ≡ p)) ↔ (IsSound f × ReadUnder f bytes (refused no_tag p))
  pub mismatched : (p : ℕ) → ((a ≡ 11) × (n ≡ p)) ↔ (IsSound f × ReadUnder f bytes (refused mismatch p))
  pub too_deep : (p : ℕ) → ((a ≡ 12) × (n ≡ p)) ↔ (IsSound f × ReadUnder f bytes (refused too_many p))

-- then 13 where the page ends with tags unmatched, 14 where it is balanced and not valid, without a number
pub record PageOrder (f bytes : List ℕ) (a n : ℕ) : Type 0 where
  pub numbered : Memᴰ a (0 ∷ 7 ∷ 10 ∷ 11 ∷ 12 ∷ 13 ∷ 14 ∷ [])
  pub read_order : ReadOrder f bytes a n
  pub unmatched : (a ≡ 13) ↔ ReadWhole f bytes (λ w. Balanced w → ⊥)
  pub not_derived : (a ≡ 14) ↔ ReadWhole f bytes (λ w. Balanced w × (Valid (schema_of f) w → ⊥))
  pub no_number : (a ≡ 0) ⊎ (a ≡ 13) ⊎ (a ≡ 14) → n ≡ 0

pub record FragmentOrder (f bytes : List ℕ) (a n : ℕ) : Type 0 where
  pub numbered : Memᴰ a (0 ∷ 7 ∷ 10 ∷ 11 ∷ 12 ∷ [])
  pub read_order : ReadOrder f bytes a n
  pub no_number : a ≡ 0 → n ≡ 0

-- ---- a join or net depth: the answer a, the number n, the depth z

-- 7, 15; a join then 11 where the two names that meet differ, and 12 where more than 16 tags are left; of any two summaries
pub record JoinOrder (f : List ℕ) (left right : Summary) (a n : ℕ) : Type 0 where
  pub numbered : Memᴰ a (0 ∷ 7 ∷ 11 ∷ 12 ∷ 15 ∷ [])
  pub file_first : FileFirst f a n
  pub no_summary : (a ≡ 15) ↔ (IsSound f × (SummaryUnder f left × SummaryUnder f right → ⊥))
  pub mismatched : (a ≡ 11) ↔ (BothSummaries f left right × ((x y : ℕ) × (outcome_of f left right ≡ differ x y)))
  pub too_deep : (a ≡ 12)
      ↔ (BothSummaries f left right × ((t : Stack Piece) × (c : Piece) × (outcome_of f left right ≡ reduced t c) × (most_tags < tags t)))
  pub no_number : (a ≡ 7 → ⊥) → n ≡ 0

pub record DepthOrder (f : List ℕ) (s : Summary) (a n : ℕ) (z : ℤ) : Type 0 where
  pub numbered : Memᴰ a (0 ∷ 7 ∷ 15 ∷ [])
  pub file_first : FileFirst f a n
  pub no_summary : (a ≡ 15) ↔ (IsSound f × (SummaryUnder f s → ⊥))
  pub no_number : (a ≡ 7 → ⊥) → n ≡ 0
  pub no_depth : 1 ≤ a → z ≡ pos 0

-- ---- a row lent from C or Rust

-- one that is too short stays as it was, with the one answer of its own, 17 (Rules, section 10): any other refusal writes a whole row of
-- zeros, for which there must be room. What stands past a row never changes
pub record LentRow (row : List ℕ) (a n : ℕ) (row' : List ℕ) : Type 0 where
  pub short_first : (a ≡ short_row) ↔ (length row < row_width)
  pub short_unchanged : a ≡ short_row → (n ≡ 0) × (row' ≡ row)
  pub refused_zero : 1 ≤ a → a ≤ 15 → row' ≡ replicate row_width 0 ++ drop row_width row
  pub rest_unchanged : drop row_width row' ≡ drop row_width row
  pub same_length : length row' ≡ length row
