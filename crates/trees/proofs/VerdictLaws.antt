-- What the rounds' end means for the strings of the start (specs/Events.antt, specs/Verdict.antt). A mismatched string of a useful
-- nonterminal stands inside a string of the start, which is then mismatched and so not valid; an invalid page is one itself. After a
-- pass each string of the start, whatever its height, has its form among the images of the round before (proofs/StableLaws.antt): it has
-- few tags, and a page of that form was met and was valid, so it is valid too. Assumes nothing.
use mathlib.Core.List.{List, ◌++◌}
use mathlib.Core.Logic.{◌↔◌}
use Prim.Native.Nat.{ℕ, zero, suc, pred, ◌≤◌}
use native.Mathlib.Omega.{arith}
use Rattle.words.specs.Tags.{Tag}
use Rattle.words.specs.Balance.{Balanced}
use Rattle.words.specs.Binoid.{Binoid, Laws}
use Rattle.words.specs.Reduced.{Stack, tags, Reduced}
use Rattle.words.proofs.BalanceLaws.{mismatched_factor}
use Rattle.template.specs.Grammar.{Symbol}
use Rattle.trees.specs.Trees.{Tree}
use Rattle.trees.specs.Events.{Pair, Image, Mismatch, InvalidPage, New, Event}
use Rattle.trees.specs.Verdict.{Quiet}
use Rattle.trees.proofs.UsefulLaws.{start_useful, context}
use Rattle.trees.proofs.EventLaws.{invalid_later}
use Rattle.words.proofs.MismatchLaws.{balanced_not_mismatched}
use Rattle.trees.proofs.StableLaws.{string_image}

module _ (Rule : ℕ → List Symbol → Type 0) (B : Binoid) (Valid : List Tag → Type 0) (most cap : ℕ) where
  -- some string of the start is not valid
  abbrev pub Broken : Type 0
  Broken = (w : List Tag) × (n : ℕ) × Tree Rule 0 w n × (Valid w → ⊥)

  pub invalid_broken : {r : ℕ} → InvalidPage Rule B Valid most cap r → Broken
  invalid_broken v = (v.string, v.under.height, v.under.tree, v.invalid)

  pub mismatch_broken : Laws B → ((w : List Tag) → Valid w → Balanced w) → {r : ℕ} → Mismatch Rule B Valid most cap r → Broken
  mismatch_broken L valid_balanced m =
      let (l, e, f) = context m.under.useful.1 in
      let (n, t) = f m.string (m.under.height, m.under.tree) in
      let w : List Tag = l ++ (m.string ++ e) in
      (w, n, t, λ v. balanced_not_mismatched B L (valid_balanced w v) (mismatched_factor l e m.mismatched))

  module _ (L : Laws B) (ValidForm : Stack B.H → B.H → Type 0)
      (valid_form : (w : List Tag) (s : Stack B.H) (c : B.H) → Reduced B w s c → Valid w ↔ ValidForm s c)
      (valid-form-decided : (s : Stack B.H) (c : B.H) → Dec (ValidForm s c)) where
    -- a string's form is valid, if a page of that form was met and no page met was invalid
    image_valid : {r : ℕ} → (InvalidPage Rule B Valid most cap r → ⊥) → (s : Stack B.H) (c : B.H)
        → Image Rule B Valid most cap r (record { of = 0; form = s; last = c }) → ValidForm s c
    image_valid none s c i = from (valid-form-decided s c)
      where
        from : Dec (ValidForm s c) → ValidForm s c
        from (yes v) = v
        from (no v) =
            let w = i.string in
            absurd (none (record { string = w; under = i.under; invalid = λ p. v ((valid_form w s c i.reduced).0 p) }))

    -- after a round with neither an event nor a new image, every string of the start is valid, and has few tags
    pub pass_valid : (r : ℕ) → 1 ≤ r → Quiet (Event Rule B Valid most cap) (New Rule B Valid most cap) r
        → ((p : Pair B.H) → Image Rule B Valid most cap r p → Image Rule B Valid most cap (pred r) p)
        → {w : List Tag} {n : ℕ} → Tree Rule 0 w n → Valid w × ((s : Stack B.H) × (c : B.H) × Reduced B w s c × (tags s ≤ most))
    pass_valid zero h quiet old t = absurd (omega (arith, h))
    pass_valid (suc r) h quiet old {w} {n} t =
        let (s, c, d, i) = string_image L (quiet 1) (quiet 3) old (start_useful (n, t)) t in
        let none : InvalidPage Rule B Valid most cap r → ⊥ = λ v. quiet 2 (invalid_later (omega arith) v) in
        ((valid_form w s c d).1 (image_valid none s c i), (s, c, d, i.few))
