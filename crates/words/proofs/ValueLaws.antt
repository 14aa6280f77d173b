-- Facts about the value of a balanced word (specs/Binoid.antt), over any binoid: the balanced words are those that have a value, and
-- under the laws the value of two words in a row is the product. By induction on the word's elements. Assumes nothing.
use mathlib.Core.List.{List, [], ◌∷◌, ◌++◌, append_assoc}
use Prim.Native.Nat.{ℕ}
use Rattle.words.specs.Tags.{Tag, start, end}
use Rattle.words.specs.Balance.{Balanced, empty, element}
use Rattle.words.specs.Binoid.{Binoid, Laws, Value, value_empty, value_element}

module _ (B : Binoid) where
  pub value_balanced : {w : List Tag} {h : B.H} → Value B w h → Balanced w
  value_balanced value_empty = empty
  value_balanced (value_element p q) = element (value_balanced p) (value_balanced q)

  pub balanced_value : {w : List Tag} → Balanced w → (h : B.H) × Value B w h
  balanced_value empty = (B.unit, value_empty)
  balanced_value (element p q) = (_, value_element (balanced_value p).1 (balanced_value q).1)

  module _ (L : Laws B) where
    pub value_good : {w : List Tag} {h : B.H} → Value B w h → L.Good h
    value_good value_empty = L.good_unit
    value_good (value_element p q) = L.good_compose (L.good_wrap (value_good p)) (value_good q)

    pub value_append : {u v : List Tag} {h k : B.H} → Value B u h → Value B v k → Value B (u ++ v) (B.compose h k)
    value_append value_empty q = rw (L.unit_left (value_good q)) q
    value_append (value_element {a = a} p r) q =
        rw (append_assoc, L.assoc (L.good_wrap {a = a} (value_good p)) (value_good r) (value_good q))
        (value_element p (value_append r q))

    -- one element
    pub value_single : {a : ℕ} {w : List Tag} {h : B.H} → Value B w h
        → Value B (start a ∷ (w ++ (end a ∷ []))) (B.wrap a h)
    value_single {a} p = rw (L.unit_right (L.good_wrap {a = a} (value_good p))) at (value_element {a = a} p value_empty)
