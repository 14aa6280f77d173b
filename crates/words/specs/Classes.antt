-- What a byte of a page or fragment is: start of a, end of a, or no tag (Rules, section 1; answer 10 of section 9).
use Rattle.std.specs.Prelude.{ℕ, Option, None, Some}
use Rattle.words.specs.Tags.{Tag, start, end, Spells}
use Rattle.words.specs.declared.Tag as class
use Rattle.words.specs.declared.Tag.TheVariants.{Start, End}

-- the byte spells the tag that the class names, or no tag at all
abbrev pub Classed : ℕ → ℕ → Option class.Tag → Type 0
Classed A b (Some (Start a)) = Spells A b (start a)
Classed A b (Some (End a)) = Spells A b (end a)
Classed A b None = (t : Tag) → Spells A b t → ⊥
