-- The two tests at a page's end (specs/Endings.antt), by cases of the form and of the test of its piece: a page has no tag and is
-- accepted, an unmatched form is not empty, and one that is not derived has no tag and is not accepted. Then the tests as the code makes
-- them: the number of tags decides the balance, and the balance and the test of its piece decide the ending. Assumes nothing.
use mathlib.Core.Path.{◌≡◌, refl, ap, subst}
use mathlib.Core.Bool.{Bool, true, false, cond}
use mathlib.Core.List.{List}
use mathlib.Core.Logic.{◌↔◌}
use Prim.Native.Nat.{ℕ, ◌≤◌, ◌<◌}
use native.Mathlib.Omega.{arith}
use borrow.Author.Rules.{rules}
use borrow.Author.Tests.{lt-ltb, le-ltb}
use Rattle.std.specs.Prelude.{Option, Some, None, ok_or, Result, Ok, Err}
use Rattle.words.specs.Reduced.{Stack, bottom, push, tags}
use Rattle.pieces.specs.declared.Piece.{Piece}
use Rattle.pieces.specs.Pieces.{accepts_piece}
use Rattle.form.specs.Held.{tag_count}
use Rattle.form.specs.Endings.{balance_of, ending_of}
use Rattle.form.specs.declared.Counts.{Counts}
use Rattle.form.specs.declared.Flaw.{Flaw}
use Rattle.form.specs.declared.Flaw.TheVariants.{Unmatched, NotDerived}

-- ---- what an ending says of a form and the piece after it

abbrev pub EndingSays : List ℕ → Stack Piece → Piece → Result Unit Flaw → Type 0
EndingSays lore form last (Ok _) = (form ≡ bottom) × (accepts_piece lore last ≡ true)
EndingSays lore form last (Err Unmatched) = form ≡ bottom → ⊥
EndingSays lore form last (Err NotDerived) = (form ≡ bottom) × (accepts_piece lore last ≡ false)

module _ (lore : List ℕ) where
  tested : (last : Piece) (t : Bool) → accepts_piece lore last ≡ t → EndingSays lore bottom last (cond t (Ok tt) (Err NotDerived))
  tested last true e = (refl, e)
  tested last false e = (refl, e)

  ending_says : (form : Stack Piece) (last : Piece) → EndingSays lore form last (ending_of lore form last)
  unfolding ending_of tags
  ending_says bottom last = tested last (accepts_piece lore last) refl
  ending_says (push s h t) last = λ e. omega (arith, ap tags e)

  says_ending : (form : Stack Piece) (last : Piece) (r : Result Unit Flaw) → EndingSays lore form last r → ending_of lore form last ≡ r
  unfolding ending_of
  says_ending form last (Ok _) (e, a) = rw (e, a)
  says_ending bottom last (Err Unmatched) n = absurd (n refl)
  says_ending (push s h t) last (Err Unmatched) n = refl
  says_ending form last (Err NotDerived) (e, a) = rw (e, a)

  pub ending_iff : (form : Stack Piece) (last : Piece) (r : Result Unit Flaw) → (ending_of lore form last ≡ r) ↔ EndingSays lore form last r
  ending_iff form last r = (λ e. subst (EndingSays lore form last) e (ending_says form last), says_ending form last r)

-- ---- as the code finds it, by the counts

module _ (c : Counts) (last : Piece) where
  pub balance_left : 0 < tag_count c → None ≡ balance_of c last
  unfolding balance_of
  balance_left l = rw (lt-ltb 0 (tag_count c) l)

  pub balance_whole : tag_count c ≤ 0 → Some last ≡ balance_of c last
  unfolding balance_of
  balance_whole l = rw (le-ltb 0 (tag_count c) l)

  module _ (lore : List ℕ) where
    abbrev judged : Result Piece Flaw → Result Unit Flaw
    judged (Ok p) = cond (accepts_piece lore p) (Ok tt) (Err NotDerived)
    judged (Err e) = Err e

    ending_judged : (form : Stack Piece) → tags form ≡ tag_count c
        → judged (ok_or (balance_of c last) Unmatched) ≡ ending_of lore form last
    unfolding ending_of tags
    ending_judged bottom e = rw (← (balance_whole (omega arith)))
    ending_judged (push s h t) e = rw (← (balance_left (omega arith)))

    module _ (form : Stack Piece) (same : tags form ≡ tag_count c) (b : Option Piece) (is : b ≡ balance_of c last)
        (r : Result Piece Flaw) (found : r ≡ ok_or b Unmatched) where
      judged_found : judged r ≡ ending_of lore form last
      judged_found = rw (found, is) (ending_judged form same)

      pub end_unmatched : (e : Flaw) → r ≡ Err e → Err e ≡ ending_of lore form last
      end_unmatched e h = rw h at judged_found

      module _ (p : Piece) (e : r ≡ Ok p) (t : Bool) (test : t ≡ accepts_piece lore p) where
        pub end_page : t ≡ true → Ok tt ≡ ending_of lore form last
        end_page h = rw (e, ← test, h) at judged_found

        pub end_not_derived : t ≡ false → Err NotDerived ≡ ending_of lore form last
        end_not_derived h = rw (e, ← test, h) at judged_found

pub ruleset ending_laws = (balance_left, balance_whole, end_unmatched, end_page, end_not_derived, rules)
