-- The forms at the two places of a rule's right side are the choices of its slots (specs/Slots.antt). A byte's symbol and its slot go by
-- the same tests: a start tag, an end tag, a nonterminal; where the rule is too short for a place the symbol and the slot are missing.
-- Then what a choice is: one form, one that fits, the same where the book's rows are. Assumes nothing.
use mathlib.Core.Path.{◌≡◌, refl, sym, ◌∙◌}
use mathlib.Core.Bool.{Bool, true, false, cond}
use mathlib.Core.List.{List, [], ◌∷◌, map}
use mathlib.Core.Logic.{◌↔◌}
use Prim.Native.Nat.{ℕ, zero, suc, ◌-◌, ◌≤◌, ◌<◌}
use native.Mathlib.Omega.{arith}
use lib.Dec.{ltb}
use lib.ListN.{take}
use borrow.Author.Tests.{lt-ltb, eq-eqb}
use Rattle.words.specs.Tags.{start, end}
use Rattle.words.specs.Reduced.{Stack}
use Rattle.words.specs.declared.Tag.TheVariants.{Start, End}
use Rattle.numbers.specs.Fields.{field}
use Rattle.pieces.specs.declared.Piece.{Piece}
use Rattle.pieces.specs.Pieces.{pieces}
use Rattle.template.specs.Grammar.{tag, nonterminal, symbol_of, right_side}
use Rattle.trees.specs.Results.{SymbolForm, FormAt}
use Rattle.worktable.specs.Packed.{nonterminal_in}
use Rattle.worktable.proofs.RowLaws.{row_pair, row_nonterminal}
use Rattle.pairs.specs.Books.{Book, book_of, table_row, Tabled}
use Rattle.pairs.specs.Slots.{slot_of, left_slot, right_slot, Choice, choices, new_from}
use Rattle.pairs.specs.Turns.{slot_fits, FormOf}
use Rattle.pairs.specs.declared.Slot.{Slot}
use Rattle.pairs.specs.declared.Slot.TheVariants.{Absent, Single, Rows}

-- some choice of the slot is this form
abbrev pub Chosen : Piece → Book → Slot → Stack Piece → Piece → Type 0
Chosen empty b slot s c = (k : ℕ) × (k < choices slot b.rows) × Choice empty b slot k s c

module _ (lore : List ℕ) (b : Book) (s : Stack Piece) (c : Piece) where
  -- a symbol and its slot

  symbol_choice : (a : ℕ) (low middle : Bool)
      → SymbolForm (pieces lore) (Tabled b) (cond low (tag (start a)) (cond middle (tag (end (a - 32))) (nonterminal (a - 64)))) s c
      ↔ Chosen (pieces lore).unit b (cond low (Single (Start a)) (cond middle (Single (End (a - 32))) (Rows (a - 64)))) s c
  symbol_choice a true middle = (λ (p, q). (0, omega arith, (refl, p, q)), λ (k, l, (e, p, q)). (p, q))
  symbol_choice a false true = (λ (p, q). (0, omega arith, (refl, p, q)), λ (k, l, (e, p, q)). (p, q))
  symbol_choice a false false = (λ (k, l, r). (k, l, (l, r)), λ (k, l, (l', r)). (k, l, r))

  used_slot : (a : ℕ) → SymbolForm (pieces lore) (Tabled b) (symbol_of a) s c ↔ Chosen (pieces lore).unit b (slot_of true a) s c
  unfolding symbol_of slot_of
  used_slot a = symbol_choice a (ltb a 32) (ltb a 64)

  missing_slot : (a k : ℕ) → FormAt (pieces lore) (Tabled b) [] k s c ↔ Chosen (pieces lore).unit b (slot_of false a) s c
  unfolding slot_of
  missing_slot a k = (λ (p, q). (0, omega arith, (refl, p, q)), λ (k, l, (e, p, q)). (p, q))

  -- the two places of a rule of this length, with these symbols

  pub left_forms : (rules : List ℕ) (i : ℕ) → FormAt (pieces lore) (Tabled b) (right_side rules i) 0 s c
      ↔ Chosen (pieces lore).unit b (left_slot rules i) s c
  unfolding right_side
  left_forms rules i = at (field rules i 1)
    where
      at : (long : ℕ)
          → FormAt (pieces lore) (Tabled b) (map symbol_of (take long (field rules i 2 ∷ field rules i 3 ∷ []))) 0 s c
          ↔ Chosen (pieces lore).unit b (slot_of (ltb 0 long) (field rules i 2)) s c
      at zero = missing_slot (field rules i 2) 0
      at (suc long) = rw (lt-ltb 0 (suc long) (omega arith)) (used_slot (field rules i 2))

  pub right_forms : (rules : List ℕ) (i : ℕ) → FormAt (pieces lore) (Tabled b) (right_side rules i) 1 s c
      ↔ Chosen (pieces lore).unit b (right_slot rules i) s c
  unfolding right_side
  right_forms rules i = at (field rules i 1)
    where
      at : (long : ℕ)
          → FormAt (pieces lore) (Tabled b) (map symbol_of (take long (field rules i 2 ∷ field rules i 3 ∷ []))) 1 s c
          ↔ Chosen (pieces lore).unit b (slot_of (ltb 1 long) (field rules i 3)) s c
      at zero = missing_slot (field rules i 3) 1
      at (suc zero) = missing_slot (field rules i 3) 0
      at (suc (suc long)) = rw (lt-ltb 1 (suc (suc long)) (omega arith)) (used_slot (field rules i 3))

-- ---- choices

module _ (empty : Piece) (t : List ℕ) where
  -- a choice is one form
  pub choice_unique : (n : ℕ) (slot : Slot) (k : ℕ) (s u : Stack Piece) (c d : Piece) → Choice empty (book_of t n) slot k s c
      → Choice empty (book_of t n) slot k u d → (s ≡ u) × (c ≡ d)
  choice_unique n Absent k s u c d (e, p, q) (e', p', q') = (p ∙ sym p', q ∙ sym q')
  choice_unique n (Single a) k s u c d (e, p, q) (e', p', q') = (p ∙ sym p', q ∙ sym q')
  choice_unique n (Rows x) k s u c d (l, r) (l', r') =
      let (e, f, g) = row_pair (table_row t k) x x s u c d r r' in
      (f, g)

  -- an old choice was one before
  pub choice_old : (prev n : ℕ) (first : Bool) (slot : Slot) (k : ℕ) (s : Stack Piece) (c : Piece) → k < new_from slot prev first
      → Choice empty (book_of t n) slot k s c → (k < choices slot prev) × Choice empty (book_of t prev) slot k s c
  choice_old prev n first Absent k s c l (e, p, q) = (omega arith, (e, p, q))
  choice_old prev n first (Single a) k s c l (e, p, q) = (omega arith, (e, p, q))
  choice_old prev n first (Rows x) k s c l (l', r) = (l, (l, r))

  -- a choice fits
  choice_fits : (n : ℕ) (slot : Slot) (k : ℕ) (s : Stack Piece) (c : Piece) → Choice empty (book_of t n) slot k s c
      → slot_fits slot k t ≡ true
  unfolding slot_fits
  choice_fits n Absent k s c p = refl
  choice_fits n (Single a) k s c p = refl
  choice_fits n (Rows x) k s c (l, r) = eq-eqb (nonterminal_in (table_row t k)) x (row_nonterminal (table_row t k) x s c r)

  -- a choice below the number of choices is its form
  choice_form : (n : ℕ) (slot : Slot) (k : ℕ) (s : Stack Piece) (c : Piece) → k < choices slot n
      → FormOf empty t slot k s c ↔ Choice empty (book_of t n) slot k s c
  choice_form n Absent k s c l = (λ (p, q). (omega arith, p, q), λ (e, p, q). (p, q))
  choice_form n (Single a) k s c l = (λ (p, q). (omega arith, p, q), λ (e, p, q). (p, q))
  choice_form n (Rows x) k s c l = (λ r. (l, r), λ (l', r). r)

-- the rows below n are all that matters: choices of the table t, seen in a later one
module _ (empty : Piece) (t t' : List ℕ) (n : ℕ) (same : (k : ℕ) → k < n → table_row t' k ≡ table_row t k) where
  choice_same : (slot : Slot) (k : ℕ) (s : Stack Piece) (c : Piece) → Choice empty (book_of t n) slot k s c
      ↔ Choice empty (book_of t' n) slot k s c
  choice_same Absent k s c = (λ p. p, λ p. p)
  choice_same (Single a) k s c = (λ p. p, λ p. p)
  choice_same (Rows x) k s c = (λ (l, r). (l, rw (same k l) r), λ (l, r). (l, rw (same k l) at r))

  pub fits_later : (slot : Slot) (k : ℕ) (s : Stack Piece) (c : Piece) → Choice empty (book_of t n) slot k s c → slot_fits slot k t' ≡ true
  fits_later slot k s c w = choice_fits empty t' n slot k s c ((choice_same slot k s c).0 w)

  pub form_later : (slot : Slot) (k : ℕ) (s : Stack Piece) (c : Piece) → k < choices slot n
      → FormOf empty t' slot k s c ↔ Choice empty (book_of t n) slot k s c
  form_later slot k s c l = (
    λ f. (choice_same slot k s c).1 ((choice_form empty t' n slot k s c l).0 f),
    λ w. (choice_form empty t' n slot k s c l).1 ((choice_same slot k s c).0 w),
  )

-- in the first round no choice is old
pub none_old : (prev n : ℕ) (slot : Slot) (k : ℕ) → prev ≤ n → n ≡ 0 → k < new_from slot prev true → ⊥
none_old prev n Absent k l e h = omega arith
none_old prev n (Single a) k l e h = omega arith
none_old prev n (Rows x) k l e h = omega arith
