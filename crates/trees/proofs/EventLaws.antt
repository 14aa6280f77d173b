-- Images and events by rounds (specs/Events.antt). `Under r` is `YieldsWithin r` of a useful nonterminal: so no string stands under one at
-- round 0, and what stands under one at a round does so at every later one; images and events follow it. Where a round has neither a
-- mismatched string nor one with too many tags, each string under a useful nonterminal has its image. Assumes nothing.
use mathlib.Core.Path.{refl}
use mathlib.Core.List.{List, [], ◌∷◌, Memᴰ}
use mathlib.Core.Logic.{◌⊎◌, inl, inr}
use Prim.Native.Nat.{ℕ, zero, suc, ◌≤◌, ◌<◌}
use lib.ListN.{length}
use native.Mathlib.Decide.{dec_le}
use native.Mathlib.Omega.{arith}
use Rattle.words.specs.Tags.{Tag}
use Rattle.words.specs.Balance.{Mismatched}
use Rattle.words.specs.Binoid.{Binoid, Laws}
use Rattle.words.specs.Reduced.{Stack, tags, Reduced}
use Rattle.words.proofs.MismatchLaws.{one_of}
use Rattle.template.specs.Grammar.{Symbol, nonterminal}
use Rattle.trees.specs.Trees.{Useful}
use Rattle.trees.specs.Events.{Pair, Under, Image, Mismatch, InvalidPage, TooDeep, Crowded, Event}
use Rattle.trees.proofs.HeightLaws.{YieldsWithin, yields_within, within_yields, within_none, within_root}
use Rattle.trees.proofs.MarkLaws.{AllNonterminals}
use Rattle.trees.proofs.UsefulLaws.{rule_useful}

module _ {Rule : ℕ → List Symbol → Type 0} {B : Binoid} {Valid : List Tag → Type 0} {most cap : ℕ} where
  -- by the bound on the height

  pub under_within : {r x : ℕ} {w : List Tag} → Under Rule B Valid most cap r x w → YieldsWithin Rule r (nonterminal x ∷ []) w
  under_within {r} u = yields_within r u.low u.tree

  pub within_under : {r x : ℕ} {w : List Tag} → Useful Rule x → YieldsWithin Rule r (nonterminal x ∷ []) w
      → Under Rule B Valid most cap r x w
  within_under h p = let (n, l, t) = within_yields p in record { useful = h; height = n; tree = t; low = l }

  -- the rule at the root of a tree under a useful nonterminal, over lower trees under useful ones
  pub under_root : {r x : ℕ} {w : List Tag} → Under Rule B Valid most cap (suc r) x w
      → (rhs : List Symbol) × Rule x rhs × YieldsWithin Rule r rhs w × AllNonterminals (Useful Rule) rhs
  under_root {w = w} u =
      let (rhs, rule, p) = within_root (under_within u) in
      let (n, h, y) = within_yields p in
      (rhs, rule, p, rule_useful u.useful rule (w, n, y))

  -- nothing at round 0

  pub under_none : {x : ℕ} {w : List Tag} → Under Rule B Valid most cap 0 x w → ⊥
  under_none u = within_none (under_within u)

  pub image_none : {p : Pair B.H} → Image Rule B Valid most cap 0 p → ⊥
  image_none i = under_none i.under

  pub mismatch_none : Mismatch Rule B Valid most cap 0 → ⊥
  mismatch_none m = under_none m.under

  pub invalid_none : InvalidPage Rule B Valid most cap 0 → ⊥
  invalid_none v = under_none v.under

  pub deep_none : TooDeep Rule B Valid most cap 0 → ⊥
  deep_none d = under_none d.under

  pub crowded_none : Crowded Rule B Valid most cap 0 → ⊥
  crowded_none c = from c.images c.are_images c.many
    where
      from : (l : List (Pair B.H)) → ((p : Pair B.H) → Memᴰ p l → Image Rule B Valid most cap 0 p) → cap < length l → ⊥
      from [] f h = let k : cap < 0 = h in omega (arith, k)
      from (p ∷ l) f h = image_none (f p (Memᴰ.head refl))

  -- what a round has, every later one has

  module _ {q r : ℕ} (h : q ≤ r) where
    pub under_later : {x : ℕ} {w : List Tag} → Under Rule B Valid most cap q x w → Under Rule B Valid most cap r x w
    under_later u =
        let l : u.height ≤ q = u.low in
        record { useful = u.useful; height = u.height; tree = u.tree; low = omega (arith, h, l) }

    pub image_later : {p : Pair B.H} → Image Rule B Valid most cap q p → Image Rule B Valid most cap r p
    image_later i = record { string = i.string; under = under_later i.under; reduced = i.reduced; few = i.few }

    pub mismatch_later : Mismatch Rule B Valid most cap q → Mismatch Rule B Valid most cap r
    mismatch_later m = record { of = m.of; string = m.string; under = under_later m.under; mismatched = m.mismatched }

    pub invalid_later : InvalidPage Rule B Valid most cap q → InvalidPage Rule B Valid most cap r
    invalid_later v = record { string = v.string; under = under_later v.under; invalid = v.invalid }

    pub deep_later : TooDeep Rule B Valid most cap q → TooDeep Rule B Valid most cap r
    deep_later d = record {
      of = d.of;
      string = d.string;
      under = under_later d.under;
      form = d.form;
      last = d.last;
      reduced = d.reduced;
      deep = d.deep;
    }

  -- with the binoid's laws

  module _ (L : Laws B) where
    -- a string without mismatch and with few tags has its image
    pub under_image : {r x : ℕ} {w : List Tag} → (Mismatch Rule B Valid most cap r → ⊥) → (TooDeep Rule B Valid most cap r → ⊥)
        → Under Rule B Valid most cap r x w
        → (s : Stack B.H) × (c : B.H) × Reduced B w s c × Image Rule B Valid most cap r (record { of = x; form = s; last = c })
    under_image {r} {x} {w} matched shallow u = from (one_of B L w)
      where
        at_most : (s : Stack B.H) (c : B.H) → Reduced B w s c → Dec (tags s ≤ most)
            → Image Rule B Valid most cap r (record { of = x; form = s; last = c })
        at_most s c p (yes h) = record { string = w; under = u; reduced = p; few = h }
        at_most s c p (no h) = absurd (shallow (record {
          of = x;
          string = w;
          under = u;
          form = s;
          last = c;
          reduced = p;
          deep = omega (arith, h);
        }))

        from : ((s : Stack B.H) × (c : B.H) × Reduced B w s c) ⊎ Mismatched w
            → (s : Stack B.H) × (c : B.H) × Reduced B w s c × Image Rule B Valid most cap r (record { of = x; form = s; last = c })
        from (inl (s, c, p)) = (s, c, p, at_most s c p (dec_le (tags s) most))
        from (inr m) = absurd (matched (record { of = x; string = w; under = u; mismatched = m }))

-- events by their number

module _ (Rule : ℕ → List Symbol → Type 0) (B : Binoid) (Valid : List Tag → Type 0) (most cap r : ℕ) where
  -- no event of a number below n
  pub no_event_below : (n : ℕ) → (1 < n → Mismatch Rule B Valid most cap r → ⊥) → (2 < n → InvalidPage Rule B Valid most cap r → ⊥)
      → (3 < n → TooDeep Rule B Valid most cap r → ⊥) → (4 < n → Crowded Rule B Valid most cap r → ⊥)
      → (k : ℕ) → k < n → Event Rule B Valid most cap r k → ⊥
  no_event_below n m v d c zero h e = e
  no_event_below n m v d c (suc zero) h e = m h e
  no_event_below n m v d c (suc (suc zero)) h e = v h e
  no_event_below n m v d c (suc (suc (suc zero))) h e = d h e
  no_event_below n m v d c (suc (suc (suc (suc zero)))) h e = c h e
  no_event_below n m v d c (suc (suc (suc (suc (suc k))))) h e = e

  pub no_event : (Mismatch Rule B Valid most cap r → ⊥) → (InvalidPage Rule B Valid most cap r → ⊥)
      → (TooDeep Rule B Valid most cap r → ⊥) → (Crowded Rule B Valid most cap r → ⊥)
      → (k : ℕ) → Event Rule B Valid most cap r k → ⊥
  no_event m v d c k e = no_event_below (suc k) (λ h. m) (λ h. v) (λ h. d) (λ h. c) k (omega arith) e

module _ (Rule : ℕ → List Symbol → Type 0) (B : Binoid) (Valid : List Tag → Type 0) (most cap : ℕ) where
  pub event_none : (k : ℕ) → Event Rule B Valid most cap 0 k → ⊥
  event_none = no_event Rule B Valid most cap 0 mismatch_none invalid_none deep_none crowded_none
