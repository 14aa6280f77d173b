-- What is known once the file was read as sound: its numbers and its parts are the file's own, so what was asked with them is asked under
-- the file. The premises are the facts that the code has of what it read. Assumes nothing.
use mathlib.Core.Path.{◌≡◌, sym, ap, ◌∙◌, subst}
use mathlib.Core.List.{List}
use Prim.Native.Nat.{ℕ, ◌+◌, ◌*◌, ◌≤◌}
use native.Mathlib.Omega.{arith}
use Rattle.hedge.specs.Schema.{most_states, RulesBelow, EndsBelow}
use Rattle.entries.specs.Entries.{rule_symbols, rule_width}
use Rattle.template.specs.Layout.{name_count, states, part_of, schema_rules, ending_states, schema_rules_of, ending_states_of}
use Rattle.template.specs.Order.{SoundOf, IsSound, shape_of, reading_of, reading, number}
use Rattle.std.specs.Prelude.{Ok}
use Rattle.template.specs.Order.{Reading, faulty}
use Rattle.template.specs.declared.Shape.{Shape}
use Rattle.template.proofs.SoundLaws.{SoundFile, reading_sound, sound_reading_of, sound_file}
use Rattle.template.proofs.GrammarLaws.{schema_rules_below, endings_below}

-- a file is sound or bad
pub sound_not_bad_of : (symbols : ℕ) (f : List ℕ) (p : ℕ) → SoundOf symbols f → reading_of symbols f ≡ faulty p → ⊥
sound_not_bad_of symbols f p s e = let z : ◌≡◌ {A = ℕ} 0 1 = cc (sym (sound_reading_of symbols f s) ∙ e) in omega arith

pub sound_not_bad : (f : List ℕ) (p : ℕ) → IsSound f → reading f ≡ faulty p → ⊥
sound_not_bad = sound_not_bad_of rule_symbols

-- the parts behind the template rules, by a shape that is the file's
module _ (symbols : ℕ) (f : List ℕ) (shape : Shape) (is : shape ≡ shape_of f) where
  pub rules_are_of : (schema : List ℕ) → schema ≡ part_of f (16 + rule_width symbols * shape.templates) (4 * shape.schema)
      → schema ≡ schema_rules_of symbols f
  rules_are_of schema h =
      h ∙ ap (λ (s : Shape). part_of f (16 + rule_width symbols * s.templates) (4 * s.schema)) is

  pub endings_are_of : (endings : List ℕ)
      → endings ≡ part_of f (16 + rule_width symbols * shape.templates + 4 * shape.schema) shape.endings
      → endings ≡ ending_states_of symbols f
  endings_are_of endings h =
      h ∙ ap (λ (s : Shape). part_of f (16 + rule_width symbols * s.templates + 4 * s.schema) s.endings) is

-- ---- what was read

pub read_is : (f : List ℕ) (r a : Reading) → r ≡ reading f → r ≡ a → reading f ≡ a
read_is f r a e p = sym e ∙ p

-- the place that is taken out of a bad reading is that of the file's first fault
pub bad_at : (f : List ℕ) (r : Reading) (p q : ℕ) → r ≡ reading f → r ≡ faulty p → q ≡ number r → reading f ≡ faulty q
bad_at f r p q e told place =
    sym e ∙ told ∙ ap (λ (n : ℕ). faulty n) (sym (place ∙ ap (λ (r : Reading). number r) told))

module _ (f : List ℕ) (shape : Shape) (sound : reading f ≡ Ok shape) where
  pub shape_sound : IsSound f
  shape_sound = (reading_sound f shape sound).0

  shape_file : SoundFile f
  shape_file = sound_file f shape_sound

  shape_is : shape ≡ shape_of f
  shape_is = (reading_sound f shape sound).1

  pub names_are : shape.names ≡ name_count f
  names_are = ap (λ (s : Shape). s.names) shape_is

  module _ (q : ℕ) (h : q ≡ shape.states) where
    pub states_are : q ≡ states f
    states_are = h ∙ ap (λ (s : Shape). s.states) shape_is

    pub states_few : q ≤ most_states
    states_few = subst (λ n. n ≤ most_states) (sym states_are) shape_file.few_states

    -- the parts
    module _ (schema endings : List ℕ) (hs : schema ≡ part_of f (16 + 4 * shape.templates) (4 * shape.schema))
        (he : endings ≡ part_of f (16 + 4 * shape.templates + 4 * shape.schema) shape.endings) where
      pub rules_are : schema ≡ schema_rules f
      rules_are = rules_are_of rule_symbols f shape shape_is schema hs

      pub endings_are : endings ≡ ending_states f
      endings_are = endings_are_of rule_symbols f shape shape_is endings he

      pub rules_below : RulesBelow q schema
      rules_below = rw (states_are, rules_are) (schema_rules_below f shape_file)

      pub ends_below : EndsBelow q endings
      ends_below = rw (states_are, endings_are) (endings_below f shape_file)
