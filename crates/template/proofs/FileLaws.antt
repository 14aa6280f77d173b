-- A whole file: what a head and contents without a fault say of its length, its bodies by its own numbers, and the verdict.
-- The tests of a list without a fault hold one by one; the rest opens a definition and rewrites. Assumes nothing.
use mathlib.Core.Path.{◌≡◌}
use mathlib.Core.List.{List}
use Prim.Native.Nat.{ℕ, ◌≤◌}
use borrow.Author.Tests.{leb-true, eqb-true}
use lib.ListN.{length}
use Rattle.entries.specs.Tests.{first_fault}
use Rattle.entries.specs.declared.Test.{Test}
use Rattle.std.specs.Prelude.{Ok, Err}
use Rattle.entries.specs.Tests.{Tested}
use Rattle.entries.specs.declared.Fault.{Fault}
use Rattle.entries.specs.declared.Body.{Body}
use Rattle.entries.specs.declared.Body.TheVariants.{Templates, Schema, Endings}
use Rattle.entries.specs.declared.Sizes.{Sizes}
use Rattle.template.specs.Layout.{rule_count, schema_count, ending_count, schema_start_of, ending_start_of, bodies_end_of}
use Rattle.template.specs.Order.{head_tests, contents_tests, body, tests, shape_of, reading_of}
use Rattle.template.specs.declared.Shape.{Shape}
use Rattle.entries.proofs.OrderLaws.{ok_holds}
use Rattle.entries.proofs.BodyLaws.{entries_of}

-- the length

pub head_length : (f : List ℕ) → first_fault (head_tests f) ≡ Ok tt → 16 ≤ length f
unfolding head_tests
head_length f e = leb-true 16 (length f) (ok_holds (head_tests f) e).0

pub contents_length : (symbols : ℕ) (f : List ℕ) → first_fault (contents_tests symbols f) ≡ Ok tt → length f ≡ bodies_end_of symbols f
unfolding contents_tests
contents_length symbols f e =
    eqb-true (length f) (bodies_end_of symbols f) (ok_holds (contents_tests symbols f) e).1.1.1.1.1.1.0

-- the bodies, by the file's own numbers

module _ (symbols : ℕ) where
  abbrev pub template_tests : List ℕ → List Test
  template_tests f = body (Templates symbols) f 16 (rule_count f)

  abbrev pub schema_tests : List ℕ → List Test
  schema_tests f = body Schema f (schema_start_of symbols f) (schema_count f)

  abbrev pub ending_tests : List ℕ → List Test
  ending_tests f = body Endings f (ending_start_of symbols f) (ending_count f)

-- the sizes that a shape holds
abbrev pub sizes_of : Shape → Sizes
sizes_of s = record { names = s.names; nonterminals = s.nonterminals; states = s.states }

pub body_of : (b : Body) (f : List ℕ) {s : Shape} {first place n count : ℕ} {e : Tested}
    → e ≡ first_fault (entries_of b (sizes_of s) f first first n)
    → s ≡ shape_of f → first ≡ place → n ≡ count → e ≡ first_fault (body b f place count)
body_of b f made shape start size = rw (← size, ← start) (rw shape at made)

-- the verdict

pub answers_bad : (symbols : ℕ) (f : List ℕ) {x : Fault} → Err x ≡ first_fault (tests symbols f) → Err x ≡ reading_of symbols f
unfolding reading_of
answers_bad symbols f fault = rw (← fault)

pub answers_sound : (symbols : ℕ) (f : List ℕ) {s : Shape} → s ≡ shape_of f → Ok tt ≡ first_fault (tests symbols f)
    → Ok s ≡ reading_of symbols f
unfolding reading_of
answers_sound symbols f shape none = rw (← none, shape)
