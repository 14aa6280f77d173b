-- Binoids, and the value of a balanced word in one. The source, section 3.1, Proposition 2: a finite algebra with unit, product and
-- an operation for each element name, and a map from balanced words to it that keeps all three.
use Rattle.std.specs.Prelude.{◌≡◌, List, [], ◌∷◌, ◌++◌, ℕ}
use Rattle.words.specs.Tags.{Tag, start, end}

-- the carrier, the unit, the product, and the operation of each element name
pub record Binoid : Type 1 where
  pub H : Type 0
  pub unit : H
  pub compose : H → H → H
  pub wrap : ℕ → H → H

-- a monoid's laws, which the source asks for: associative product, unit; on good elements, which the three operations do not leave
pub record Laws (B : Binoid) : Type 1 where
  pub Good : B.H → Type 0
  pub good_unit : Good B.unit
  pub good_compose : {x y : B.H} → Good x → Good y → Good (B.compose x y)
  pub good_wrap : {a : ℕ} {x : B.H} → Good x → Good (B.wrap a x)
  pub unit_left : {x : B.H} → Good x → B.compose B.unit x ≡ x
  pub unit_right : {x : B.H} → Good x → B.compose x B.unit ≡ x
  pub assoc : {x y z : B.H} → Good x → Good y → Good z
      → B.compose (B.compose x y) z ≡ B.compose x (B.compose y z)

-- w° of a balanced word w: the unit of the empty word, and the product of an element's value and that of the word after it
pub data Value (B : Binoid) : List Tag → B.H → Type 0 where
  value_empty : Value B [] B.unit
  value_element : {a : ℕ} {u v : List Tag} {h k : B.H} → Value B u h → Value B v k
      → Value B (start a ∷ (u ++ (end a ∷ v))) (B.compose (B.wrap a h) k)
