-- The ordinary file of a file of long rules has the templates of the old one: each old nonterminal derives the strings that it derived
-- before (`same_strings`, since the ordinary file's rules are exactly the parts). Assumes nothing.
use mathlib.Core.List.{List}
use mathlib.Core.Logic.{◌↔◌}
use Prim.Native.Nat.{ℕ, ◌<◌}
use Rattle.words.specs.Tags.{Tag}
use Rattle.template.specs.Layout.{nonterminals, template_rules}
use Rattle.template.specs.Order.{SoundOf}
use Rattle.template.specs.Grammar.{Gives}
use Rattle.trees.specs.Trees.{Tree}
use Rattle.long.specs.Rules.{long_symbols, LongGives}
use Rattle.long.specs.Splits.{long_rules, Shortens}
use Rattle.long.proofs.BelowLaws.{long-rules-below}
use Rattle.long.proofs.StringLaws.{same_strings}

pub shortened_strings : (f F : List ℕ) → SoundOf long_symbols f → Shortens f F → (x : ℕ) → x < nonterminals f → (w : List Tag)
    → ((n : ℕ) × Tree (LongGives (long_rules f)) x w n) ↔ ((n : ℕ) × Tree (Gives (template_rules F)) x w n)
shortened_strings f F sound short =
    same_strings (nonterminals f) (long_rules f) (template_rules F) (long-rules-below f sound) short.rules_are
