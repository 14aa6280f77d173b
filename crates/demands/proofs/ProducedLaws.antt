-- What a sound template set produces is spelled by bytes (specs/Third.antt), a page as any string of a nonterminal: the tags in its rules
-- have names below A, and A is at most 32, so each tag of a tree's string has its byte. By induction on the tree. Assumes nothing.
use mathlib.Core.List.{List, [], ◌∷◌}
use Prim.Native.Nat.{ℕ, ◌+◌}
use native.Mathlib.Omega.{arith}
use Rattle.words.specs.Tags.{Tag, start, end, Spells, start_byte, end_byte}
use Rattle.template.specs.Layout.{name_count, nonterminals}
use Rattle.template.specs.Order.{IsSound}
use Rattle.template.specs.Grammar.{Symbol}
use Rattle.template.proofs.SoundLaws.{SoundFile, sound_file}
use Rattle.template.proofs.GrammarLaws.{TagBelow, SymbolsBelow, gives_below}
use Rattle.reader.specs.Reads.{Spelled, spelled_none, spelled_more}
use Rattle.reader.proofs.SpelledLaws.{spelled_append}
use Rattle.trees.specs.Trees.{Tree, Yields, yields_nothing, yields_tag, yields_tree}
use Rattle.rounds.specs.Checks.{RuleOf}

-- some bytes spell the word
abbrev pub Written : ℕ → List Tag → Type 0
Written A w = (bytes : List ℕ) × Spelled A bytes w

module _ (f : List ℕ) (file : SoundFile f) where
  tag_spelled : (t : Tag) → TagBelow (name_count f) t → (b : ℕ) × Spells (name_count f) b t
  tag_spelled (start a) h = (a, start_byte (h, omega (arith, h, file.few_names)))
  tag_spelled (end a) h = (32 + a, end_byte (h, omega (arith, h, file.few_names)))

  yields_written : {ss : List Symbol} {w : List Tag} {n : ℕ} → Yields (RuleOf f) ss w n → SymbolsBelow (name_count f) (nonterminals f) ss
      → Written (name_count f) w
  yields_written yields_nothing below = ([], spelled_none)
  yields_written (yields_tag {t = t} p) (here, below) =
      let (b, s) = tag_spelled t here in
      let (bytes, spelled) = yields_written p below in
      (b ∷ bytes, spelled_more s spelled)
  yields_written (yields_tree {x = x} {rhs = rhs} rule p q) (here, below) =
      let (_, _, inner) = gives_below f file x rhs rule in
      let (u, s) = yields_written p inner in
      let (v, r) = yields_written q below in
      (_, spelled_append (name_count f) s r)

  -- a tree's nonterminal has a rule, so it is one of the file's
  tree_spelled : {x : ℕ} {w : List Tag} {n : ℕ} → Tree (RuleOf f) x w n → Written (name_count f) w
  tree_spelled (yields_tree {x = x} {rhs = rhs} rule p q) =
      yields_written (yields_tree rule p q) ((gives_below f file x rhs rule).0, tt)

pub tree_written : (f : List ℕ) → IsSound f → {x : ℕ} {w : List Tag} {n : ℕ} → Tree (RuleOf f) x w n → Written (name_count f) w
tree_written f sound tree = tree_spelled f (sound_file f sound) tree
