-- A form of each marked nonterminal (specs/Turns.antt), in the words in which `note_forms` has it, for `search forms_laws`: none is noted
-- before 0, one that is not marked is passed over, one that is marked is noted, and a form leaves at most 256 rows. Where the marks moved
-- down by x are 0, nothing from x on is marked; where they are not, x is a nonterminal (`marks_left`). Where a form found no room before, only
-- the start's form changes a note (`crowded_forms`). Assumes nothing.
use mathlib.Core.Path.{◌≡◌, refl, ◌∙◌}
use mathlib.Core.Bool.{Bool, true, false, ◌&&◌, ◌||◌, or-false}
use mathlib.Core.List.{List}
use Prim.Native.Nat.{ℕ, zero, suc, ◌+◌, ◌-◌, ◌/◌, ◌%◌, ◌^◌, ◌≤◌, ◌<◌}
use native.Mathlib.Nat.{add-zero, add-suc, zero-div, div-eq_of_lt, lt_of_lt_of_le, lt_of_not-le}
use native.Mathlib.Omega.{arith}
use native.Mathlib.Numerals.{add-one}
use lib.Pow.{pow_mono, shr-shr}
use mir.Syntax.{w64}
use mir.Val.{Fits}
use borrow.Author.Rules.{rules}
use borrow.Author.Tests.{eq-eqb, ne_eqb}
use Rattle.numbers.specs.Bits.{bit}
use Rattle.numbers.proofs.BitLaws.{bit_digit}
use Rattle.words.specs.Reduced.{Stack}
use Rattle.pieces.specs.declared.Piece.{Piece}
use Rattle.trees.specs.Events.{Pair}
use Rattle.worktable.specs.Packed.{most_images, RowOf}
use Rattle.pairs.specs.Turns.{invalid_form, PairNoted, was_crowded, stands, finds_no_room, goes_behind}
use Rattle.pairs.specs.Turns.{FormsNoted, forms_none, forms_other, forms_more}
use Rattle.pairs.specs.declared.Tally.{Tally}
use Rattle.pairs.proofs.NoteLaws.{note_crowded}

-- ---- one form

pub pair_room : (lore : List ℕ) (p : Pair Piece) (t : List ℕ) (found r : Tally) (t' : List ℕ) → found.rows ≤ most_images
    → PairNoted lore p t found r t' → r.rows ≤ most_images
pair_room lore p t found r t' h (was_crowded f) = h
pair_room lore p t found r t' h (stands row q f) = h
pair_room lore p t found r t' h (finds_no_room row q f l) = h
pair_room lore p t found r t' h (goes_behind row u q f l a) = omega arith

-- the row packs some nonterminal with the form
abbrev pub Packs : List ℕ → Stack Piece → Piece → Type 0
Packs row s c = (y : ℕ) × RowOf row y s c

-- ---- the marks, moved down by x: as long as one is left, x is a nonterminal

module _ (marks x rest : ℕ) (moved : rest ≡ marks / 2 ^ x) where
  pub marks_left : Fits w64 marks → 0 < rest → x + 1 ≤ 64
  marks_left small some =
      rw add-one
      (lt_of_not-le
      (λ l.
      let none : rest ≡ 0 = moved ∙ div-eq_of_lt (lt_of_lt_of_le small.fits (pow_mono l)) in
      omega arith))

-- ---- none, next, end

module _ (lore : List ℕ) (marks : ℕ) (s : Stack Piece) (c : Piece) (t : List ℕ) (found : Tally) where
  pub forms_start : FormsNoted lore marks s c t found 0 found t
  forms_start = forms_none

  module _ (x : ℕ) (r : Tally) (t' : List ℕ) (before : FormsNoted lore marks s c t found x r t') where
    pub forms_skip : (marks / 2 ^ x % 2 ≡ 1 → ⊥) → FormsNoted lore marks s c t found (x + 1) r t'
    unfolding bit
    forms_skip n = rw add-one (forms_other before (ne_eqb (marks / 2 ^ x % 2) 1 n))

    pub forms_next : (r' : Tally) (t'' : List ℕ) → marks / 2 ^ x % 2 ≡ 1 → PairNoted lore (record { of = x; form = s; last = c }) t' r r' t''
        → FormsNoted lore marks s c t found (x + 1) r' t''
    unfolding bit
    forms_next r' t'' e w = rw add-one (forms_more before (eq-eqb (marks / 2 ^ x % 2) 1 e) w)

    -- where no mark is left, nothing from x on is marked
    none_marked : marks / 2 ^ x ≡ 0 → (n : ℕ) → bit marks (x + n) ≡ false
    none_marked none n = bit_digit marks (x + n) false (rw (← (shr-shr marks x n), none, zero-div))

    forms_past : marks / 2 ^ x ≡ 0 → (n : ℕ) → FormsNoted lore marks s c t found (x + n) r t'
    forms_past none zero = rw add-zero before
    forms_past none (suc n) = rw add-suc (forms_other (forms_past none n) (none_marked none n))

    pub forms_end : marks / 2 ^ x ≡ 0 → x ≤ 64 → FormsNoted lore marks s c t found 64 r t'
    forms_end none h =
        let e : x + (64 - x) ≡ 64 = omega arith in
        rw e at (forms_past none (64 - x))

-- ---- where a form found no room before: no row goes behind the others, and only the start's form can be an invalid page

module _ (lore : List ℕ) (marks : ℕ) (s : Stack Piece) (c : Piece) (t : List ℕ) (found : Tally) (full : found.notes.crowded ≡ true) (invalid : Bool)
    (invalid_is : invalid ≡ invalid_form lore (record { of = 0; form = s; last = c })) where
  -- the tally where the start is marked or not
  abbrev pub noted_where : Bool → Tally
  noted_where b =
      record {
        rows = found.rows;
        notes = record { invalid = found.notes.invalid || (b && invalid); deep = found.notes.deep; crowded = found.notes.crowded };
      }

  crowded_first : (b : Bool) → bit marks 0 ≡ b → FormsNoted lore marks s c t found 1 (noted_where b) t
  crowded_first true e = forms_more forms_none e (note_crowded lore (record { of = 0; form = s; last = c }) t found invalid invalid_is full)
  crowded_first false e = rw (or-false found.notes.invalid) (forms_other forms_none e)

  other_valid_form : (n : ℕ) → false ≡ invalid_form lore (record { of = suc n; form = s; last = c })
  unfolding invalid_form
  other_valid_form n = rw (ne_eqb (suc n) 0 (λ z. omega (arith, z)))

  crowded_more : (n : ℕ) (b : Bool) → bit marks (suc n) ≡ b → FormsNoted lore marks s c t found (suc n) (noted_where (bit marks 0)) t
      → FormsNoted lore marks s c t found (suc (suc n)) (noted_where (bit marks 0)) t
  crowded_more n false e before = forms_other before e
  crowded_more n true e before =
      let noted =
      note_crowded lore (record { of = suc n; form = s; last = c }) t (noted_where (bit marks 0)) false (other_valid_form n) full in
      forms_more before e (rw (or-false (found.notes.invalid || (bit marks 0 && invalid))) at noted)

  pub crowded_forms : (n : ℕ) → FormsNoted lore marks s c t found (suc n) (noted_where (bit marks 0)) t
  crowded_forms zero = crowded_first (bit marks 0) refl
  crowded_forms (suc n) = crowded_more n (bit marks (suc n)) refl (crowded_forms n)

pub ruleset forms_laws = (pair_room, forms_start, forms_skip, forms_next, forms_end, rules)
