-- The test of a page's form (pairs/specs/Turns.antt) and what it says: a form of the start that fails it is not valid, one that passes it is,
-- and a form of more than 16 tags has tags, so that it is not valid. By cases on the ending. Assumes nothing.
use mathlib.Core.Path.{◌≡◌, refl, sym, ap, ◌∙◌}
use mathlib.Core.Bool.{true, false, false≢true}
use mathlib.Core.List.{List}
use Prim.Native.Nat.{ℕ, ◌<◌}
use native.Mathlib.Omega.{arith}
use lib.Dec.{eqb}
use borrow.Author.Tests.{eqb-true, eq-eqb}
use Rattle.std.specs.Prelude.{Result, Ok, Err}
use Rattle.std.specs.Result.{is_err}
use Rattle.words.specs.Reduced.{Stack, tags}
use Rattle.std.proofs.lemmas.Bool.{and_parts}
use Rattle.pieces.specs.declared.Piece.{Piece}
use Rattle.pieces.specs.Pieces.{most_tags}
use Rattle.form.specs.Endings.{ending_of}
use Rattle.form.specs.declared.Flaw.{Flaw}
use Rattle.form.proofs.EndingLaws.{ending_iff}
use Rattle.trees.specs.Events.{Pair}
use Rattle.pairs.specs.Turns.{invalid_form}
use Rattle.walk.specs.Walks.{ValidForm}

page_is : (e : Result Unit Flaw) → is_err e ≡ false → e ≡ Ok tt
page_is (Ok u) h = refl
page_is (Err f) h = absurd (false≢true (sym h))

module _ (lore : List ℕ) where
  module _ (p : Pair Piece) where
    -- a form of the start that is no page's, and one that is

    pub invalid-form : invalid_form lore p ≡ true → (p.of ≡ 0) × (ValidForm lore p.form p.last → ⊥)
    unfolding invalid_form
    invalid-form e =
        let (x, q) = and_parts (eqb p.of 0) _ e in
        (eqb-true p.of 0 x, λ v. false≢true (sym (ap is_err v) ∙ q))

    pub valid_start_form : invalid_form lore p ≡ false → p.of ≡ 0 → ValidForm lore p.form p.last
    unfolding invalid_form
    valid_start_form e z =
        page_is (ending_of lore p.form p.last) (rw (eq-eqb p.of 0 z) at e)

  pub deep_invalid : (s : Stack Piece) (c : Piece) → most_tags < tags s → ValidForm lore s c → ⊥
  unfolding tags
  deep_invalid s c l v = omega (arith, ap tags ((ending_iff lore s c (Ok tt)).0 v).0)
