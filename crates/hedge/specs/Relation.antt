-- The relation of a word as a number. Rules, section 5: it has the pair (X, Z) where X derives the word with Z left to go on, and keeps
-- that pair as its bit 8·X+Z. The width of a row, 8 there, is K here.
use Rattle.std.specs.Prelude.{◌≡◌, Bool, true, List, ◌↔◌, ℕ, ◌+◌, ◌*◌, ◌^◌, ◌<◌}
use Rattle.numbers.specs.Bits.{bit}
use Rattle.words.specs.Tags.{Tag}
use Rattle.hedge.specs.Schema.{Schema, Leads}

-- the pair (x, z) is in the relation r
unfoldable pub has : ℕ → ℕ → ℕ → ℕ → Bool
has K r x z = bit r (x * K + z)

-- r is the relation of the word: it has (x, z) exactly when x derives the word followed by z
pub record RelationOf (K : ℕ) (S : Schema) (w : List Tag) (r : ℕ) : Type 0 where
  pub small : r < 2 ^ (K * K)
  pub members : (x z : ℕ) → x < K → z < K → (has K r x z ≡ true) ↔ Leads S x w z

-- no bit past the width, and none of a pair with a state not below q
pub record Within (K q r : ℕ) : Type 0 where
  pub small : r < 2 ^ (K * K)
  pub states : (x z : ℕ) → x < K → z < K → has K r x z ≡ true → (x < q) × (z < q)
