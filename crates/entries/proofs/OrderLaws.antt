-- The first fault of a list of tests: of two lists after each other, of a list without a fault (all its tests hold), and of a chain of
-- single tests. By cases on the fault that is there already, or by induction on the tests that come first. Assumes nothing.
use mathlib.Core.Path.{◌≡◌, refl, sym, ap, ◌∙◌}
use mathlib.Core.Bool.{Bool, true, false}
use mathlib.Core.List.{List, [], ◌∷◌, ◌++◌}
use Prim.Native.Nat.{ℕ}
use Rattle.entries.specs.Tests.{Test, test, Tested, fault_at, unless, first_fault, or_then}
use Rattle.std.specs.Prelude.{Result, Ok, Err, IsErrAnd}
use Rattle.std.proofs.lemmas.Result.{err_from_is_err_and}
use Rattle.entries.specs.declared.Fault.{Fault}

-- an earlier fault stays

then_assoc : (f g h : Tested) → or_then (or_then f g) h ≡ or_then f (or_then g h)
then_assoc (Ok u) g h = refl
then_assoc (Err p) g h = refl

then_ok : (f : Tested) → or_then f (Ok tt) ≡ f
then_ok (Ok u) = refl
then_ok (Err p) = refl

then_unless : (b : Bool) (p : ℕ) (f g : Tested) → or_then (unless b (fault_at p) f) g ≡ unless b (fault_at p) (or_then f g)
then_unless true p f g = refl
then_unless false p f g = refl

-- no test, and one that holds

pub first_none : Ok tt ≡ first_fault []
unfolding first_fault
first_none = refl

pub first_held : (p : ℕ) → Ok tt ≡ first_fault (test true p ∷ [])
unfolding first_fault
first_held p = refl

-- what `?` hands on is the fault that it met

pub passed_on : {T E : Type 0} {x : E} (r : Result T E) → IsErrAnd r (λ y. y ≡ x) → r ≡ Err x
passed_on r e = let p = err_from_is_err_and r e in p.1 ∙ ap Err p.2

-- two lists: a fault of the first stays, and without one the second decides

pub first_append : (ts us : List Test) → first_fault (ts ++ us) ≡ or_then (first_fault ts) (first_fault us)
unfolding first_fault
first_append [] us = refl
first_append (t ∷ ts) us = rw (first_append ts us, then_unless t.holds t.place)

module _ (ts us : List Test) {e : Tested} (first : e ≡ first_fault ts) where
  pub first_stays : {x : Fault} → e ≡ Err x → Err x ≡ first_fault (ts ++ us)
  first_stays fault = rw (first_append ts us, ← first, fault)

  pub first_passes : {g : Tested} → e ≡ Ok tt → g ≡ first_fault us → g ≡ first_fault (ts ++ us)
  first_passes none second = rw (first_append ts us, ← first, none) second

-- a list that is taken part by part: where a part has a fault, that is the whole's, and else the whole's is that of what is left

module _ (here rest : List Test) {left : List Test} {all e : Tested} (more : left ≡ here ++ rest) (so_far : all ≡ first_fault left)
    (made : e ≡ first_fault here) where
  pub part_stays : {x : Fault} → e ≡ Err x → Err x ≡ all
  part_stays fault = first_stays here rest made fault ∙ sym (ap first_fault more) ∙ sym so_far

  pub part_passes : e ≡ Ok tt → all ≡ first_fault rest
  part_passes none = so_far ∙ ap first_fault more ∙ sym (first_passes here rest made none refl)

-- a list without a fault: every test holds

abbrev pub TestsHold : List Test → Type 0
TestsHold [] = Unit {0}
TestsHold (t ∷ ts) = (t.holds ≡ true) × TestsHold ts

unless_ok : (b : Bool) (p : ℕ) (g : Tested) → unless b (fault_at p) g ≡ Ok tt → (b ≡ true) × (g ≡ Ok tt)
unless_ok true p g e = (refl, e)
unless_ok false p g e = (cc, cc)

pub first_ok : (t : Test) (ts : List Test) → first_fault (t ∷ ts) ≡ Ok tt → (t.holds ≡ true) × (first_fault ts ≡ Ok tt)
unfolding first_fault
first_ok t ts e = unless_ok t.holds t.place (first_fault ts) e

pub ok_holds : (ts : List Test) → first_fault ts ≡ Ok tt → TestsHold ts
ok_holds [] e = tt
ok_holds (t ∷ ts) e = let h = first_ok t ts e in (h.0, ok_holds ts h.1)

-- two lists: neither has a fault exactly where the one after the other has none

then_both : (f g : Tested) → or_then f g ≡ Ok tt → (f ≡ Ok tt) × (g ≡ Ok tt)
then_both (Ok u) g e = (refl, e)
then_both (Err p) g e = (cc, cc)

pub first_append_ok : (ts us : List Test) → first_fault (ts ++ us) ≡ Ok tt → (first_fault ts ≡ Ok tt) × (first_fault us ≡ Ok tt)
first_append_ok ts us e = then_both (first_fault ts) (first_fault us) (sym (first_append ts us) ∙ e)

pub ok_append : (ts us : List Test) → first_fault ts ≡ Ok tt → first_fault us ≡ Ok tt → first_fault (ts ++ us) ≡ Ok tt
ok_append ts us e d = rw (first_append ts us, e, d)

-- a chain of single tests: the fault known after each is made from the one before and the test's value

pub data Chain (g : Tested) : Tested → List Test → Type 0 where
  ended : Chain g g []
  tested : {f h : Tested} {b : Bool} {t : Test} {ts : List Test}
      → h ≡ or_then f (first_fault (test b t.place ∷ [])) → b ≡ t.holds → Chain g h ts → Chain g f (t ∷ ts)

chain_first : {g f : Tested} {ts : List Test} → Chain g f ts → g ≡ or_then f (first_fault ts)
unfolding first_fault
chain_first ended = rw then_ok
chain_first (tested {b = b} {t = t} made holds rest) =
    chain_first rest ∙ rw (made, then_assoc, then_unless b t.place, holds)

pub first_chain : {g : Tested} {ts : List Test} → Chain g (Ok tt) ts → g ≡ first_fault ts
first_chain chain = chain_first chain
