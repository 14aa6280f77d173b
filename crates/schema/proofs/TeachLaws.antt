-- Teaching a sound file's schema: the parts that were taken are the file's own, and their states and names are few enough, so what is
-- taught is the file's lore. The premises are the facts that the code has of what it took. Assumes nothing.
use mathlib.Core.Path.{◌≡◌, refl}
use mathlib.Core.List.{List}
use Prim.Native.Nat.{ℕ, ◌+◌, ◌*◌, ◌≤◌}
use Rattle.words.specs.Tags.{most_names}
use Rattle.hedge.specs.Schema.{most_states, RulesBelow, EndsBelow}
use Rattle.lore.specs.Lore.{NamesBelow, Taught}
use Rattle.template.specs.Layout.{part_of}
use Rattle.template.specs.Order.{reading}
use Rattle.std.specs.Prelude.{Ok}
use Rattle.template.specs.declared.Shape.{Shape}
use Rattle.template.proofs.ShapeLaws.{shape_sound, states_are, states_few, rules_are, endings_are}
use Rattle.schema.specs.Schemas.{LoreOf}
use Rattle.template.proofs.SoundLaws.{sound_file}
use Rattle.template.proofs.GrammarLaws.{schema_rules_below, endings_below}
use Rattle.schema.proofs.SchemaLaws.{file_names_below}

module _ (f : List ℕ) (shape : Shape) (sound : reading f ≡ Ok shape) where
  module _ (q : ℕ) (h : q ≡ shape.states) where
    pub teach_few : q ≤ most_states
    teach_few = states_few f shape sound q h

  module _ (q : ℕ) (h : q ≡ shape.states) (rules : List ℕ) (hr : rules ≡ part_of f (16 + 4 * shape.templates) (4 * shape.schema)) where
    pub teach_rules_below : RulesBelow q rules
    teach_rules_below =
        rw (states_are f shape sound q h, rules_are f shape sound q h rules _ hr refl)
        (schema_rules_below f (sound_file f (shape_sound f shape sound)))

    pub teach_names_below : NamesBelow most_names rules
    teach_names_below = rw (rules_are f shape sound q h rules _ hr refl) (file_names_below f (shape_sound f shape sound))

  module _ (q : ℕ) (h : q ≡ shape.states) (ends : List ℕ)
      (he : ends ≡ part_of f (16 + 4 * shape.templates + 4 * shape.schema) shape.endings) where
    pub teach_ends_below : EndsBelow q ends
    teach_ends_below =
        rw (states_are f shape sound q h, endings_are f shape sound q h _ ends refl he)
        (endings_below f (sound_file f (shape_sound f shape sound)))

  pub teach_taught : (q : ℕ) → q ≡ shape.states
      → (rules ends : List ℕ) → rules ≡ part_of f (16 + 4 * shape.templates) (4 * shape.schema)
      → ends ≡ part_of f (16 + 4 * shape.templates + 4 * shape.schema) shape.endings
      → (lore : List ℕ) → Taught most_states q rules ends lore → LoreOf f lore
  teach_taught q h rules ends hr he lore t =
      rw (
        ← states_are f shape sound q h,
        ← rules_are f shape sound q h rules ends hr he,
        ← endings_are f shape sound q h rules ends hr he,
      ) t
