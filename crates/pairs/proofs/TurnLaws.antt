-- One pair of choices (specs/Turns.antt), in the words in which `noted_deep` and `one_turn` have it, for `search one_turn_laws`: arrays of
-- zeros hold the empty form, what is loaded stands in the arrays, and joining on the arrays says what the join is under the limit (form's
-- FormLaws, words' LimitLaws). Assumes nothing.
use mathlib.Core.Path.{◌≡◌, sym, ◌∙◌}
use mathlib.Core.Bool.{Bool, true, false≢true, not}
use mathlib.Core.List.{List}
use Prim.Native.Nat.{ℕ}
use native.Mathlib.Omega.{arith}
use lib.ListN.{length-replicate, replicate}
use borrow.Author.Rules.{rules}
use Rattle.std.specs.Prelude.{Option, Some, None, Result, Ok, Err}
use borrow.Author.Tests.{not-true}
use Rattle.words.specs.Reader.{Outcome, reduced, join}
use Rattle.words.proofs.LimitLaws.{Answers, limit_iff}
use Rattle.pieces.specs.declared.Piece.{Piece}
use Rattle.pieces.specs.Pieces.{most_tags, pieces_long, zero_piece, pieces, Counted}
use Rattle.pieces.proofs.PieceLaws.{no_pieces, none_counted}
use Rattle.form.specs.Held.{summary_of, form_of, last_of, Holds}
use Rattle.form.specs.Steps.{outcome, Stepped, after_form}
use Rattle.form.specs.declared.Counts.{Counts}
use Rattle.form.specs.declared.Summary.{Summary}
use Rattle.form.specs.declared.Clash.{Clash}
use Rattle.form.specs.declared.Clash.TheVariants as clash
use Rattle.form.proofs.HeldLaws.{unused_none}
use Rattle.form.proofs.FormLaws.{form_limit}
use Rattle.pairs.specs.Turns.{slot_fits, FormOf, Loads, after_deep, FormsNoted, OutcomeNoted, mismatches, is_deep, is_form}
use Rattle.pairs.specs.Turns.{Turned, no_forms, joined}
use Rattle.pairs.specs.declared.Slot.{Slot}
use Rattle.pairs.specs.declared.Selection.{Selection}
use Rattle.pairs.specs.declared.Tally.{Tally}
use Rattle.pairs.proofs.LoadLaws.{form_fits}

-- ---- arrays of zeros

pub zeros_hold : Holds (summary_of (record { ends = 0; starts = 0 }) (replicate most_tags 0) (replicate pieces_long 0))
zeros_hold =
    record {
      names_long = length-replicate {A = ℕ} most_tags 0;
      values_long = length-replicate {A = ℕ} pieces_long 0;
      room = omega arith;
      unused = record {
        names_zero = (unused_none most_tags pieces_long zero_piece).names_zero;
        values_zero = λ k l. no_pieces pieces_long k;
      };
      counted = none_counted pieces_long;
    }

pub empty_counted : (lore : List ℕ) (p : Piece) → p ≡ (pieces lore).unit → Counted p
empty_counted lore p e = rw e (omega arith)

-- ---- what is loaded

-- the arrays hold a form that is choice k of a slot
abbrev pub FormLoaded : Piece → List ℕ → Slot → ℕ → Counts → List ℕ → List ℕ → Type 0
FormLoaded empty t slot k c names values = Loads (FormOf empty t slot k) (Some c) names values

-- ---- the turn

-- a right choice that does not fit has no form
pub turn_no_fit : (lore t : List ℕ) (pair : Selection) (marks : ℕ) (found : Tally) (fits : Bool) → fits ≡ slot_fits pair.right pair.k t
    → not fits ≡ true → Turned lore t pair marks found (Some found) t
turn_no_fit lore t pair marks found fits told off =
    no_forms (λ s c u d f g. false≢true (sym (not-true fits off) ∙ told ∙ form_fits (pieces lore).unit t pair.right pair.k u d g))

module _ (lore t : List ℕ) (pair : Selection) (marks : ℕ) (found : Tally) (empty : Piece) (empty-is : empty ≡ (pieces lore).unit) where
  pub turn_no_left : (names values : List ℕ) → Loads (FormOf empty t pair.left pair.j) None names values
      → Turned lore t pair marks found (Some found) t
  turn_no_left names values loads = no_forms (λ s c u d f g. (rw empty-is at loads) s c f)

  pub turn_no_right : (tags parts : List ℕ) → Loads (FormOf empty t pair.right pair.k) None tags parts
      → Turned lore t pair marks found (Some found) t
  turn_no_right tags parts loads = no_forms (λ s c u d f g. (rw empty-is at loads) u d g)

  module _ (tags parts names values names' values' : List ℕ) (c more : Counts)
      (right : FormLoaded empty t pair.right pair.k more tags parts) (left : FormLoaded empty t pair.left pair.j c names values) where
    abbrev first : Summary
    first = summary_of c names values

    abbrev second : Summary
    second = summary_of more tags parts

    -- the join of the two forms
    abbrev pub joined_forms : Outcome Piece
    joined_forms = join (pieces lore) (reduced (form_of first) (last_of first)) (form_of second) (last_of second)

    answers : (step : Result Counts Clash) → Stepped step names' values' (after_form lore first second)
        → Answers most_tags joined_forms (outcome step names' values')
    answers step told =
        (limit_iff (pieces lore) most_tags joined_forms (outcome step names' values')).0
        (sym (form_limit lore first second left.0.room) ∙ sym told.says)

    turn_joined : (r : Option Tally) (t' : List ℕ) → OutcomeNoted lore marks joined_forms t found r t' → Turned lore t pair marks found r t'
    turn_joined r t' w =
        joined (form_of first) (last_of first) (form_of second) (last_of second) r t' (rw empty-is at left.1) (rw empty-is at right.1) w

    pub turn_form : (d : Counts) (r : Tally) (t' : List ℕ) → Stepped (Ok d) names' values' (after_form lore first second)
        → FormsNoted lore marks (form_of (summary_of d names' values')) (last_of (summary_of d names' values')) t found 64 r t'
        → Turned lore t pair marks found (Some r) t'
    unfolding outcome
    turn_form d r t' told w =
        let (q, l) = answers (Ok d) told in
        turn_joined (Some r) t' (is_form (form_of (summary_of d names' values')) (last_of (summary_of d names' values')) r t' q l w)

    pub turn_mismatch : (f g : ℕ) → Stepped (Err (clash.Mismatch f g)) names' values' (after_form lore first second)
        → Turned lore t pair marks found None t
    unfolding outcome
    turn_mismatch f g told = turn_joined None t (mismatches f g (answers (Err (clash.Mismatch f g)) told))

    pub turn_deep : Stepped (Err clash.TooDeep) names' values' (after_form lore first second)
        → Turned lore t pair marks found (Some (record { rows = found.rows; notes = after_deep marks found.notes })) t
    unfolding outcome
    turn_deep told =
        let (v, h, q, l) = answers (Err clash.TooDeep) told in
        turn_joined (Some (record { rows = found.rows; notes = after_deep marks found.notes })) t (is_deep v h q l)

pub ruleset one_turn_laws = (empty_counted, zeros_hold, turn_no_fit, rules)
