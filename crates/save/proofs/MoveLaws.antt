-- An entry's tests at one place of one list and at another of another: they read the same bytes, so one list of them has a fault exactly
-- where the other has (`fields_moved`); only the places that they name differ. And the way back from the entries' tests to the body's.
-- By induction on the symbols of a rule, and on the entries. Assumes nothing.
use mathlib.Core.Path.{◌≡◌, refl, sym, ap₂, ◌∙◌, subst}
use mathlib.Core.Bool.{Bool, true, or-true}
use mathlib.Core.List.{List, [], ◌∷◌, map}
use Prim.Native.Nat.{ℕ, zero, suc, ◌+◌, ◌-◌, ◌*◌, ◌<◌}
use native.Mathlib.Nat.{add-zero}
use native.Mathlib.Omega.{arith}
use borrow.Author.Tests.{le-leb}
use lib.Dec.{leb}
use lib.ListN.{take, drop}
use Rattle.entries.specs.declared.Test.{Test}
use Rattle.entries.specs.Tests.{test, first_fault}
use Rattle.entries.specs.Entries.{byte_at, symbol_tests, field_tests, width, precedes, ascends, entry_tests, body_tests}
use Rattle.std.specs.Prelude.{Result, Ok, Err}
use Rattle.entries.specs.Tests.{Tested, fault_at}
use Rattle.entries.specs.declared.Body.{Body}
use Rattle.entries.specs.declared.Body.TheVariants.{Templates, Schema, Endings}
use Rattle.entries.proofs.OrderLaws.{first_ok, ok_append}

-- ---- tests that hold alike

abbrev answers : List Test → List Bool
answers = map (λ (t : Test). t.holds)

cons_same : (a b : Bool) (xs ys : List Bool) → a ∷ xs ≡ b ∷ ys → (a ≡ b) × (xs ≡ ys)
cons_same a b xs ys e = (cc, cc)

alike : (ts us : List Test) → answers ts ≡ answers us → first_fault ts ≡ Ok tt → first_fault us ≡ Ok tt
unfolding first_fault
alike [] [] e h = h
alike [] (u ∷ us) e h = cc
alike (t ∷ ts) [] e h = refl
alike (t ∷ ts) (u ∷ us) e h =
    let same = cons_same t.holds u.holds (answers ts) (answers us) e in
    let held = first_ok t ts h in
    rw (sym same.0 ∙ held.0) (alike ts us same.1 held.1)

-- ---- an entry's fields

module _ (A N : ℕ) (f g : List ℕ) (at to : ℕ) (counted : byte_at f (at + 1) ≡ byte_at g (to + 1)) where
  symbols_alike : (j n : ℕ) → ((k : ℕ) → k < j + n → byte_at f (at + 2 + k) ≡ byte_at g (to + 2 + k))
      → answers (symbol_tests A N f at j n) ≡ answers (symbol_tests A N g to j n)
  unfolding symbol_tests
  symbols_alike j zero same = refl
  symbols_alike j (suc n) same =
      ap₂ ◌∷◌ (rw (counted, same j (omega arith))) (symbols_alike (suc j) n (λ k h. same k (omega arith)))

module _ (A N Q : ℕ) (f g : List ℕ) (at to : ℕ) where
  fields_alike : (b : Body) → ((j : ℕ) → j < width b → byte_at f (at + j) ≡ byte_at g (to + j))
      → answers (field_tests b A N Q f at) ≡ answers (field_tests b A N Q g to)
  unfolding field_tests width
  fields_alike (Templates symbols) same =
      let first : byte_at f at ≡ byte_at g to = rw (add-zero at, add-zero to) at (same 0 (omega arith)) in
      let second : byte_at f (at + 1) ≡ byte_at g (to + 1) = same 1 (omega arith) in
      ap₂ ◌∷◌ (rw first)
      (ap₂ ◌∷◌ (rw second)
      (symbols_alike A N f g at to second 0 symbols (λ k h.
      let e : at + (2 + k) ≡ at + 2 + k = omega arith in
      let d : to + (2 + k) ≡ to + 2 + k = omega arith in
      rw (e, d) at (same (2 + k) (omega arith)))))
  fields_alike Schema same =
      let first : byte_at f at ≡ byte_at g to = rw (add-zero at, add-zero to) at (same 0 (omega arith)) in
      rw (first, same 1 (omega arith), same 2 (omega arith), same 3 (omega arith))
  fields_alike Endings same =
      let first : byte_at f at ≡ byte_at g to = rw (add-zero at, add-zero to) at (same 0 (omega arith)) in
      rw first

  pub fields_moved : (b : Body) → ((j : ℕ) → j < width b → byte_at f (at + j) ≡ byte_at g (to + j))
      → first_fault (field_tests b A N Q f at) ≡ Ok tt → first_fault (field_tests b A N Q g to) ≡ Ok tt
  fields_moved b same = alike (field_tests b A N Q f at) (field_tests b A N Q g to) (fields_alike b same)

-- ---- from entries to the body

module _ (b : Body) (A N Q : ℕ) (f : List ℕ) (first : ℕ) where
  pub entry_passes : (at : ℕ) → first_fault (field_tests b A N Q f at) ≡ Ok tt → ascends (width b) f first at ≡ true
      → first_fault (entry_tests b A N Q f first at) ≡ Ok tt
  unfolding entry_tests first_fault
  entry_passes at fields ascent =
      ok_append (field_tests b A N Q f at) (test (ascends (width b) f first at) at ∷ []) fields (rw ascent)

  pub body_passes : (at n : ℕ) → ((i : ℕ) → i < n → first_fault (entry_tests b A N Q f first (at + width b * i)) ≡ Ok tt)
      → first_fault (body_tests b A N Q f first at n) ≡ Ok tt
  unfolding body_tests first_fault
  body_passes at zero each = refl
  body_passes at (suc n) each =
      let none : at + width b * 0 ≡ at = omega arith in
      ok_append (entry_tests b A N Q f first at) (body_tests b A N Q f first (at + width b) n)
      (rw none at (each 0 (omega arith)))
      (body_passes (at + width b) n (λ i h.
      let p : at + width b * suc i ≡ at + width b + width b * i = omega arith in
      subst (λ (q : ℕ). first_fault (entry_tests b A N Q f first q) ≡ Ok tt) p (each (suc i) (omega arith))))

  -- an entry ascends: it is the first, or the one before it precedes it
  pub first_ascends : ascends (width b) f first (first + width b * 0) ≡ true
  unfolding ascends
  first_ascends = rw (le-leb (first + width b * 0) first (omega arith))

  pub next_ascends : (i : ℕ) → precedes (take (width b) (drop (first + width b * i) f)) (take (width b) (drop (first + width b * suc i) f)) ≡ true
      → ascends (width b) f first (first + width b * suc i) ≡ true
  unfolding ascends
  next_ascends i e =
      let before : first + width b * suc i - width b ≡ first + width b * i = omega arith in
      rw (before, e) (or-true (leb (first + width b * suc i) first))
