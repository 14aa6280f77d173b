-- The entries of a body that has no fault. Each entry passes its own tests (`body_entry`, by induction on the number of entries), so its
-- fields hold (`body_fields`) and it comes after the entry before it (`body_ascends`, `ascends_precedes`). Assumes nothing.
use mathlib.Core.Path.{◌≡◌, subst}
use mathlib.Core.Bool.{true}
use mathlib.Core.List.{List, [], ◌∷◌}
use Prim.Native.Nat.{ℕ, zero, suc, ◌+◌, ◌*◌, ◌-◌, ◌<◌}
use native.Mathlib.Omega.{arith}
use lib.ListN.{take, drop}
use borrow.Author.Tests.{lt-leb}
use Rattle.entries.specs.Tests.{test, first_fault}
use Rattle.entries.specs.Entries.{field_tests, width, precedes, ascends, entry_tests, body_tests}
use Rattle.std.specs.Prelude.{Ok}
use Rattle.entries.specs.declared.Body.{Body}
use Rattle.entries.specs.declared.Body.TheVariants.{Templates, Schema, Endings}
use Rattle.entries.proofs.OrderLaws.{TestsHold, ok_holds, first_ok, first_append_ok}

-- entry i of a list, each entry of the same width
abbrev pub entry : ℕ → List ℕ → ℕ → List ℕ
entry wide l i = take wide (drop (wide * i) l)

-- n entries of the same width, each before the next
abbrev pub EntriesAscend : ℕ → ℕ → List ℕ → Type 0
EntriesAscend wide n l = (i : ℕ) → suc i < n → precedes (entry wide l i) (entry wide l (suc i)) ≡ true

-- every entry passes its tests
body_entry : (b : Body) (A N Q : ℕ) (f : List ℕ) (first at n i : ℕ) → first_fault (body_tests b A N Q f first at n) ≡ Ok tt → i < n
    → first_fault (entry_tests b A N Q f first (at + width b * i)) ≡ Ok tt
unfolding body_tests
body_entry b A N Q f first at zero i e h = absurd (omega arith)
body_entry b A N Q f first at (suc n) zero e h =
    let p : at + width b * zero ≡ at = omega arith in
    rw p (first_append_ok (entry_tests b A N Q f first at) (body_tests b A N Q f first (at + width b) n) e).0
body_entry b A N Q f first at (suc n) (suc i) e h =
    let k = first_append_ok (entry_tests b A N Q f first at) (body_tests b A N Q f first (at + width b) n) e in
    let p : at + width b + width b * i ≡ at + width b * suc i = omega arith in
    subst (λ (q : ℕ). first_fault (entry_tests b A N Q f first q) ≡ Ok tt) p
    (body_entry b A N Q f first (at + width b) n i k.1 (omega arith))

module _ (b : Body) (A N Q : ℕ) (f : List ℕ) (first n : ℕ) (e : first_fault (body_tests b A N Q f first first n) ≡ Ok tt) where
  pub body_fields : (i : ℕ) → i < n → first_fault (field_tests b A N Q f (first + width b * i)) ≡ Ok tt
  unfolding entry_tests
  body_fields i h =
      let at = first + width b * i in
      (first_append_ok (field_tests b A N Q f at) (test (ascends (width b) f first at) at ∷ [])
      (body_entry b A N Q f first first n i e h)).0

  pub fields_hold : (i : ℕ) → i < n → TestsHold (field_tests b A N Q f (first + width b * i))
  fields_hold i h = ok_holds (field_tests b A N Q f (first + width b * i)) (body_fields i h)

  pub body_ascends : (i : ℕ) → i < n → ascends (width b) f first (first + width b * i) ≡ true
  unfolding entry_tests
  body_ascends i h =
      let at = first + width b * i in
      let last = test (ascends (width b) f first at) at in
      (first_ok last []
      (first_append_ok (field_tests b A N Q f at) (last ∷ []) (body_entry b A N Q f first first n i e h)).1).0

-- an entry that ascends and is not the first comes after the one before it
pub ascends_precedes : (wide : ℕ) (f : List ℕ) (first i : ℕ) → 0 < wide → ascends wide f first (first + wide * suc i) ≡ true
    → precedes (take wide (drop (first + wide * i) f)) (take wide (drop (first + wide * suc i) f)) ≡ true
unfolding ascends
ascends_precedes wide f first i w e =
    let later = lt-leb (first + wide * suc i) first (omega arith) in
    let before : first + wide * suc i - wide ≡ first + wide * i = omega arith in
    rw (later, before) at e

pub entry_wide : (b : Body) → 0 < width b
unfolding width
entry_wide (Templates symbols) = omega arith
entry_wide Schema = omega arith
entry_wide Endings = omega arith
