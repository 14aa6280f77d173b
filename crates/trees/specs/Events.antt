-- Images and events (Rules, section 8). Round r knows the trees up to height r of the useful nonterminals. A nonterminal with the summary of
-- such a tree's string is an image; the events are a string with a mismatch, one of the start that is no valid page, one with too many
-- tags left, and too many images. Here over any grammar and binoid, any notion of valid, at most `most` tags and `cap` images: 16 and 256
-- in the rules.
use mathlib.Core.List.{List, [], ◌∷◌, Memᴰ}
use Rattle.std.specs.Prelude.{ℕ, zero, suc, pred, ◌≤◌, ◌<◌, length}
use Rattle.words.specs.Tags.{Tag}
use Rattle.words.specs.Balance.{Mismatched}
use Rattle.words.specs.Binoid.{Binoid}
use Rattle.words.specs.Reduced.{Stack, tags, Reduced}
use Rattle.template.specs.Grammar.{Symbol}
use Rattle.trees.specs.Trees.{Tree, Useful}

-- a nonterminal with a reduced form
pub record Pair (H : Type 0) : Type 0 where
  pub of : ℕ
  pub form : Stack H
  pub last : H

-- no element stands twice
pub data Distinct {A : Type 0} : List A → Type 0 where
  distinct_none : Distinct []
  distinct_more : {x : A} {l : List A} → (Memᴰ x l → ⊥) → Distinct l → Distinct (x ∷ l)

module _ (Rule : ℕ → List Symbol → Type 0) (B : Binoid) (Valid : List Tag → Type 0) (most cap : ℕ) where
  -- the string has a tree, no higher than r, under the useful nonterminal
  pub record Under (r x : ℕ) (w : List Tag) : Type 0 where
    pub useful : Useful Rule x
    pub height : ℕ
    pub tree : Tree Rule x w height
    pub low : height ≤ r

  -- the images after round r
  pub record Image (r : ℕ) (p : Pair B.H) : Type 0 where
    pub string : List Tag
    pub under : Under r p.of string
    pub reduced : Reduced B string p.form p.last
    pub few : tags p.form ≤ most

  -- the four events of round r
  pub record Mismatch (r : ℕ) : Type 0 where
    pub of : ℕ
    pub string : List Tag
    pub under : Under r of string
    pub mismatched : Mismatched string

  pub record InvalidPage (r : ℕ) : Type 0 where
    pub string : List Tag
    pub under : Under r 0 string
    pub invalid : Valid string → ⊥

  pub record TooDeep (r : ℕ) : Type 0 where
    pub of : ℕ
    pub string : List Tag
    pub under : Under r of string
    pub form : Stack B.H
    pub last : B.H
    pub reduced : Reduced B string form last
    pub deep : most < tags form

  pub record Crowded (r : ℕ) : Type 0 where
    pub images : List (Pair B.H)
    pub distinct : Distinct images
    pub are_images : (p : Pair B.H) → Memᴰ p images → Image r p
    pub many : cap < length images

  -- an image that round r adds
  pub record New (r : ℕ) : Type 0 where
    pub image : Pair B.H
    pub here : Image r image
    pub not_before : Image (pred r) image → ⊥

  -- by its number
  abbrev pub Event : ℕ → ℕ → Type 0
  Event r zero = ⊥
  Event r (suc zero) = Mismatch r
  Event r (suc (suc zero)) = InvalidPage r
  Event r (suc (suc (suc zero))) = TooDeep r
  Event r (suc (suc (suc (suc zero)))) = Crowded r
  Event r (suc (suc (suc (suc (suc k))))) = ⊥
