-- A round that adds no image adds none ever after. A round is what the rules make of the images before it (proofs/RoundLaws.antt), so if
-- round r + 1 has no mismatch, nothing too deep and no image that round r has not, then so has round r + 2, and each after it, by
-- induction. As each tree has some height, each string of a useful nonterminal then has its image at round r. Assumes nothing.
use mathlib.Core.List.{List}
use Prim.Native.Nat.{ℕ, zero, suc, ◌+◌}
use native.Mathlib.Nat.{zero-add, suc-add}
use native.Mathlib.Omega.{arith}
use Rattle.words.specs.Tags.{Tag}
use Rattle.words.specs.Binoid.{Binoid, Laws}
use Rattle.words.specs.Reduced.{Stack, Reduced}
use Rattle.template.specs.Grammar.{Symbol}
use Rattle.trees.specs.Trees.{Useful, Tree}
use Rattle.trees.specs.Events.{Pair, Under, Image, Mismatch, TooDeep}
use Rattle.trees.proofs.EventLaws.{image_later, mismatch_later, deep_later, under_image}
use Rattle.trees.proofs.RoundLaws.{result_included, next_image, next_mismatch, next_deep}

module _ {Rule : ℕ → List Symbol → Type 0} {B : Binoid} {Valid : List Tag → Type 0} {most cap : ℕ} (L : Laws B) {r : ℕ}
    (matched : Mismatch Rule B Valid most cap (suc r) → ⊥) (shallow : TooDeep Rule B Valid most cap (suc r) → ⊥)
    (old : (p : Pair B.H) → Image Rule B Valid most cap (suc r) p → Image Rule B Valid most cap r p) where
  -- what is so at round q
  record Stable (q : ℕ) : Type 0 where
    matched_still : Mismatch Rule B Valid most cap q → ⊥
    shallow_still : TooDeep Rule B Valid most cap q → ⊥
    old_still : (p : Pair B.H) → Image Rule B Valid most cap q p → Image Rule B Valid most cap r p

  stable_here : Stable r
  stable_here = record {
    matched_still = λ m. matched (mismatch_later (omega arith) m);
    shallow_still = λ d. shallow (deep_later (omega arith) d);
    old_still = λ p i. i;
  }

  stable_next : {q : ℕ} → Stable q → Stable (suc q)
  stable_next n =
      let here = stable_here in
      record {
        matched_still = λ m.
            let (x, a, b, o) = (next_mismatch L n.matched_still n.shallow_still).0 m in
            matched ((next_mismatch L here.matched_still here.shallow_still).1 (x, a, b, result_included n.old_still o));
        shallow_still = λ d.
            let (x, s, c, o, h) = (next_deep L n.matched_still n.shallow_still).0 d in
            shallow ((next_deep L here.matched_still here.shallow_still).1 (x, s, c, result_included n.old_still o, h));
        old_still = λ p i.
            let (o, h) = (next_image L n.matched_still n.shallow_still).0 i in
            old p ((next_image L here.matched_still here.shallow_still).1 (result_included n.old_still o, h));
      }

  stable : (k : ℕ) → Stable (k + r)
  stable zero = rw zero-add stable_here
  stable (suc k) = rw suc-add (stable_next (stable k))

  -- at any round

  pub mismatch_never : (q : ℕ) → Mismatch Rule B Valid most cap q → ⊥
  mismatch_never q m = (stable q).matched_still (mismatch_later (omega arith) m)

  pub deep_never : (q : ℕ) → TooDeep Rule B Valid most cap q → ⊥
  deep_never q d = (stable q).shallow_still (deep_later (omega arith) d)

  pub image_old : (q : ℕ) (p : Pair B.H) → Image Rule B Valid most cap q p → Image Rule B Valid most cap r p
  image_old q p i = (stable q).old_still p (image_later (omega arith) i)

  -- every string of a useful nonterminal, of whatever height, has its image at round r
  pub string_image : {x n : ℕ} {w : List Tag} → Useful Rule x → Tree Rule x w n
      → (s : Stack B.H) × (c : B.H) × Reduced B w s c × Image Rule B Valid most cap r (record { of = x; form = s; last = c })
  string_image {x} {n} {w} h t =
      let u : Under Rule B Valid most cap n x w = record { useful = h; height = n; tree = t; low = omega arith } in
      let (s, c, d, i) = under_image L (mismatch_never n) (deep_never n) u in
      (s, c, d, image_old n (record { of = x; form = s; last = c }) i)
