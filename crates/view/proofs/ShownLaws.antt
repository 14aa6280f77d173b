-- What a view of a file shows is the file's three lists: the numbers of a sound reading are the file's own counts. The law goes by the
-- first fault: where there is none both sides are the list, where there is one both are empty, since the view counts no entries.
-- And the three lists of a sound file stand in it one after the other, behind the head and the contents, without gaps: each part is cut
-- off the rest of the file, and after the last one nothing is left. Assumes nothing.
use mathlib.Core.Path.{◌≡◌, refl, sym, ap, ◌∙◌}
use mathlib.Core.Bool.{Bool, true, false}
use mathlib.Core.List.{List, [], ◌++◌, append-nil}
use Prim.Native.Nat.{ℕ, ◌+◌, ◌*◌, ◌≤◌}
use native.Mathlib.Omega.{arith}
use lib.Dec.{leb}
use lib.ListN.{length, take, drop, drop_of_length-le, take-append-drop}
use lib.Seq.{drop-drop}
use Rattle.entries.specs.Tests.{first_fault}
use Rattle.entries.specs.Entries.{rule_symbols}
use Rattle.std.specs.Prelude.{Ok, Err}
use Rattle.entries.specs.Tests.{Tested}
use Rattle.template.specs.declared.Shape.{Shape}
use Rattle.template.specs.Layout.{rule_count, schema_count, ending_count, schema_start, ending_start, bodies_end, pick_part, part_of, template_rules}
use Rattle.template.specs.Layout.{schema_rules, ending_states}
use Rattle.template.specs.Order.{tests, shape_of, verdict, reading_of, reading, IsSound}
use Rattle.template.proofs.ListLaws.{part_is}
use Rattle.template.proofs.SoundLaws.{sound_reading, sound_file}
use Rattle.view.specs.Views.{templates_by, schema_by, endings_by, none, counted, of_sound, templates_in, schema_in, endings_in}

-- a part of no entries is empty
none_picked : (b : Bool) → pick_part b [] ≡ []
none_picked true = refl
none_picked false = refl

empty_part : (f : List ℕ) (at : ℕ) → part_of f at 0 ≡ []
unfolding part_of
empty_part f at = none_picked (leb (at + 0) (length f))

-- a list that is the file's own by its own numbers, and empty by none
module _ (list : List ℕ → Shape → List ℕ) (held : List ℕ → List ℕ) (sound : (f : List ℕ) → list f (shape_of f) ≡ held f)
    (bad : (f : List ℕ) → list f none ≡ []) where
  shown_by : (f : List ℕ) (x : Tested) → list f (counted (verdict x (shape_of f))) ≡ of_sound (verdict x (shape_of f)) (held f)
  shown_by f (Ok u) = sound f
  shown_by f (Err x) = bad f

  shown_held : (f : List ℕ) → list f (counted (reading f)) ≡ of_sound (reading f) (held f)
  unfolding reading_of
  shown_held f = shown_by f (first_fault (tests rule_symbols f))

pub templates-shown : (f : List ℕ) → templates_by f (counted (reading f)) ≡ templates_in f
templates-shown = shown_held templates_by template_rules (λ f. refl) (λ f. empty_part f 16)

pub schema-shown : (f : List ℕ) → schema_by f (counted (reading f)) ≡ schema_in f
schema-shown = shown_held schema_by schema_rules (λ f. refl) (λ f. empty_part f 16)

pub endings-shown : (f : List ℕ) → endings_by f (counted (reading f)) ≡ endings_in f
endings-shown = shown_held endings_by ending_states (λ f. refl) (λ f. empty_part f 16)

-- a part and the rest of the file behind it, the last part, and all three
part_then : (f xs : List ℕ) (at len : ℕ) → at + len ≤ length f → xs ≡ drop (at + len) f → part_of f at len ++ xs ≡ drop at f
part_then f xs at len h e =
    ap (λ (ys : List ℕ). ys ++ xs) (part_is f at len h)
    ∙ (ap (λ (ys : List ℕ). take len (drop at f) ++ ys) (e ∙ sym (drop-drop len at f)) ∙ take-append-drop len (drop at f))

part_last : (f : List ℕ) (at len : ℕ) → at + len ≡ length f → part_of f at len ≡ drop at f
part_last f at len e =
    sym (append-nil (part_of f at len))
    ∙ part_then f [] at len (omega arith) (sym (drop_of_length-le f {i = at + len} (omega arith)))

parts_whole : (f : List ℕ) → length f ≡ bodies_end f → take 16 f ++ (template_rules f ++ (schema_rules f ++ ending_states f)) ≡ f
parts_whole f e =
    ap (λ (xs : List ℕ). take 16 f ++ xs)
    (part_then f (schema_rules f ++ ending_states f) 16 (4 * rule_count f) (omega arith)
    (part_then f (ending_states f) (schema_start f) (4 * schema_count f) (omega arith)
    (part_last f (ending_start f) (ending_count f) (sym e))))
    ∙ take-append-drop 16 f

pub sound_whole : (f : List ℕ) → IsSound f → take 16 f ++ (templates_in f ++ (schema_in f ++ endings_in f)) ≡ f
sound_whole f e = rw (sound_reading f e) (parts_whole f (sound_file f e).whole_length)
