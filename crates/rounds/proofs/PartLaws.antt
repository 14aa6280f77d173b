-- What the code knows of a sound file's template rules: they are the file's own, in range and at most 256, and what is said of the one is
-- said of the other; the marks of what derives some string say whether the start derives some page, and what is reached is then useful. The
-- premises are the facts that the code has of what it was given. Assumes nothing.
use mathlib.Core.Path.{◌≡◌, sym, ap, ◌∙◌, subst}
use mathlib.Core.Bool.{Bool, true, false, false≢true, not}
use mathlib.Core.List.{List}
use Prim.Native.Nat.{ℕ, ◌*◌, ◌/◌, ◌≤◌}
use native.Mathlib.Omega.{arith}
use lib.ListN.{length}
use borrow.Author.Tests.{not-true, not-false}
use Rattle.numbers.specs.Bits.{bit}
use Rattle.template.specs.Layout.{most_rules, part_of, template_rules}
use Rattle.template.specs.Grammar.{Gives}
use Rattle.template.specs.Order.{reading}
use Rattle.std.specs.Prelude.{Ok}
use Rattle.std.specs.Borrow.{Bor}
use Rattle.template.specs.declared.Shape.{Shape}
use Rattle.template.proofs.SoundLaws.{reading_sound, sound_file}
use Rattle.template.proofs.ShapeLaws.{shape_sound}
use Rattle.template.proofs.ListLaws.{rules_count}
use Rattle.trees.specs.Trees.{Productive, Useful, Reached}
use Rattle.view.specs.Views.{templates_by, templates_shown, view_of}
use Rattle.view.specs.declared.View.{View}
use Rattle.useful.specs.Marks.{RulesInRange, MarksAll}
use Rattle.useful.proofs.UsefulLaws.{marks_useful, sound_in_range}
use Rattle.rounds.specs.Checks.{HasPage}

-- the view of a file with its numbers shows this part of it
pub part_viewed : {file : Bor (List ℕ)} (shape : Shape) {view : View} {rules : List ℕ} → view ≡ view_of file shape
    → rules ≡ templates_shown view → rules ≡ templates_by file.now shape
part_viewed shape e is = rw e at is

module _ (f : List ℕ) {rules : List ℕ} {shape : Shape} (sound : reading f ≡ Ok shape)
    (part : rules ≡ part_of f 16 (4 * shape.templates)) where
  pub templates_are : rules ≡ template_rules f
  templates_are = part ∙ ap (λ (s : Shape). part_of f 16 (4 * s.templates)) (reading_sound f shape sound).1

  -- what is said of the file's rules is said of the part, and back
  pub of_part : (P : List ℕ → Type 0) → P (template_rules f) → P rules
  of_part P = subst P (sym templates_are)

  pub of_file : (P : List ℕ → Type 0) → P rules → P (template_rules f)
  of_file P = subst P templates_are

  pub part_in_range : RulesInRange rules
  part_in_range = of_part RulesInRange (sound_in_range f (sound_file f (shape_sound f shape sound)))

  pub part_few : length rules / 4 ≤ most_rules
  part_few =
      let s = sound_file f (shape_sound f shape sound) in
      of_part (λ l. length l / 4 ≤ most_rules) (rw (rules_count f s) s.few_rules)

  -- ---- the marks of what derives some string, and of what is reached

  module _ (productive : ℕ) (marks : MarksAll productive (Productive (Gives rules))) (start : Bool) (told : start ≡ bit productive 0) where
    pub marked_page : not start ≡ false → HasPage f
    marked_page e = of_file (λ l. Productive (Gives l) 0) ((marks 0 (omega arith)).0 (sym told ∙ not-false start e))

    pub unmarked_no_page : not start ≡ true → HasPage f → ⊥
    unmarked_no_page e page =
        let marked : bit productive 0 ≡ true = (marks 0 (omega arith)).1 (of_part (λ l. Productive (Gives l) 0) page) in
        false≢true (sym (not-true start e) ∙ (told ∙ marked))

    pub reached_useful : not start ≡ false → (reached : ℕ) → MarksAll reached (Reached (Gives rules))
        → MarksAll reached (Useful (Gives rules))
    reached_useful e reached all = marks_useful rules productive reached marks (sym told ∙ not-false start e) all
