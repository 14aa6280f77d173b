-- Balanced and mismatched words. Rules, section 3; what is balanced is as the source defines it (Minamide and Tozawa, section 3.1).
-- Mismatched is a word in which the end tag behind a start tag and a balanced word has another name.
use Rattle.std.specs.Prelude.{◌≡◌, List, [], ◌∷◌, ◌++◌, ℕ}
use Rattle.words.specs.Tags.{Tag, start, end}

-- the empty word, or an element and a balanced word after it
pub data Balanced : List Tag → Type 0 where
  empty : Balanced []
  element : {a : ℕ} {u v : List Tag} → Balanced u → Balanced v → Balanced (start a ∷ (u ++ (end a ∷ v)))

-- the source's own three forms: the empty word, two balanced words in a row, a balanced word inside an element
pub data Dyck : List Tag → Type 0 where
  nothing : Dyck []
  in_a_row : {v w : List Tag} → Dyck v → Dyck w → Dyck (v ++ w)
  inside : {a : ℕ} {w : List Tag} → Dyck w → Dyck (start a ∷ (w ++ (end a ∷ [])))

-- x, start a, a balanced word, end b, y, with a and b different
pub data Mismatched : List Tag → Type 0 where
  clash : {a b : ℕ} (x : List Tag) {u : List Tag} (y : List Tag) → Balanced u → (a ≡ b → ⊥)
      → Mismatched (x ++ (start a ∷ (u ++ (end b ∷ y))))
