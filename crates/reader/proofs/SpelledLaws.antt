-- Bytes and the tags that they spell (specs/Reads.antt): in a row, parted, at the end, and one word only. By induction along the
-- bytes. Assumes nothing.
use mathlib.Core.Path.{◌≡◌, refl, ap, ap₂}
use mathlib.Core.List.{List, [], ◌∷◌, ◌++◌}
use Prim.Native.Nat.{ℕ}
use Rattle.words.specs.Tags.{Tag, Spells}
use Rattle.words.proofs.ClassLaws.{spells_unique}
use Rattle.reader.specs.Reads.{Spelled, spelled_none, spelled_more}

-- a byte spells a tag or none

abbrev pub Unspelled : ℕ → ℕ → Type 0
Unspelled A b = (t : Tag) → Spells A b t → ⊥

module _ (A : ℕ) where
  -- in a row

  pub spelled_append : {u v : List ℕ} {w z : List Tag} → Spelled A u w → Spelled A v z → Spelled A (u ++ v) (w ++ z)
  spelled_append spelled_none q = q
  spelled_append (spelled_more s p) q = spelled_more s (spelled_append p q)

  pub spelled_next : {u : List ℕ} {w : List Tag} {b : ℕ} {t : Tag} → Spelled A u w → Spells A b t
      → Spelled A (u ++ (b ∷ [])) (w ++ (t ∷ []))
  spelled_next p s = spelled_append p (spelled_more s spelled_none)

  -- parted

  pub spelled_split : (u v : List ℕ) {w : List Tag} → Spelled A (u ++ v) w
      → (x y : List Tag) × (w ≡ x ++ y) × Spelled A u x × Spelled A v y
  spelled_split [] v {w} p = ([], w, refl, spelled_none, p)
  spelled_split (b ∷ u) v (spelled_more {t = t} s p) =
      let (x, y, e, q, r) = spelled_split u v p in (t ∷ x, y, ap (◌∷◌ t) e, spelled_more s q, r)

  spelled_head : {b : ℕ} {bytes : List ℕ} {w : List Tag} → Spelled A (b ∷ bytes) w → (t : Tag) × Spells A b t
  spelled_head (spelled_more {t = t} s p) = (t, s)

  -- every byte spells a tag
  pub spelled_at : (u : List ℕ) (b : ℕ) (v : List ℕ) {w : List Tag} → Spelled A (u ++ (b ∷ v)) w → (t : Tag) × Spells A b t
  spelled_at u b v p = let (x, y, e, q, r) = spelled_split u (b ∷ v) p in spelled_head r

  -- one word only

  pub spelled_unique : {bytes : List ℕ} {w z : List Tag} → Spelled A bytes w → Spelled A bytes z → w ≡ z
  spelled_unique spelled_none spelled_none = refl
  spelled_unique (spelled_more s p) (spelled_more r q) = ap₂ ◌∷◌ (spells_unique s r) (spelled_unique p q)
