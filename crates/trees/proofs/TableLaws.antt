-- A round with a list of its images (specs/Events.antt), as a table holds them. More distinct images than there may be are event 4, and
-- where a list of at most that many holds all images there is no event 4, since distinct images take a place each. Assumes nothing.
use mathlib.Core.Path.{◌≡◌}
use mathlib.Core.List.Memᴰ
use mathlib.Core.List.{List, ◌∷◌, Memᴰ}
use mathlib.Core.Logic.{⊎_elim}
use Prim.Native.Nat.{ℕ, ◌≤◌, ◌<◌}
use native.Mathlib.Omega.{arith}
use lib.ListN.{length}
use Rattle.words.specs.Tags.{Tag}
use Rattle.words.specs.Binoid.{Binoid}
use Rattle.template.specs.Grammar.{Symbol}
use Rattle.trees.specs.Events.{Pair, Distinct, distinct_more, Image, Crowded}
use Rattle.trees.proofs.DistinctLaws.{distinct_length}

module _ {Rule : ℕ → List Symbol → Type 0} {B : Binoid} {Valid : List Tag → Type 0} {most cap r : ℕ} where
  pub rows_crowded : (rows : List (Pair B.H)) → Distinct rows
      → ((p : Pair B.H) → Memᴰ p rows → Image Rule B Valid most cap r p) → cap < length rows
      → Crowded Rule B Valid most cap r
  rows_crowded rows d f h = record { images = rows; distinct = d; are_images = f; many = h }

  -- an image more than a full list has
  pub row_more_crowded : (rows : List (Pair B.H)) → Distinct rows
      → ((p : Pair B.H) → Memᴰ p rows → Image Rule B Valid most cap r p) → cap ≤ length rows
      → (p : Pair B.H) → Image Rule B Valid most cap r p → (Memᴰ p rows → ⊥) → Crowded Rule B Valid most cap r
  row_more_crowded rows d f h p i n =
      rows_crowded (p ∷ rows) (distinct_more n d)
      (λ q m. ⊎_elim (λ (e : q ≡ p). rw e i) (f q) (Memᴰ.cases_cons m)) (omega (arith, h))

  pub rows_not_crowded : (rows : List (Pair B.H))
      → ((p : Pair B.H) → Image Rule B Valid most cap r p → Memᴰ p rows) → length rows ≤ cap
      → Crowded Rule B Valid most cap r → ⊥
  rows_not_crowded rows f h c =
      let k : length c.images ≤ length rows = distinct_length c.distinct (λ p m. f p (c.are_images p m)) in
      let l : cap < length c.images = c.many in
      omega (arith, h, k, l)
