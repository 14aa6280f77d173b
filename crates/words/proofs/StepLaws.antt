-- One tag or one balanced word more (specs/Reader.antt): the equations of a step, one for each case that a reader meets, and what a
-- step keeps: good values, and end tags before start tags; the unit as a value changes nothing. Each is by cases on the form.
-- Assumes nothing.
use mathlib.Core.Path.{◌≡◌, refl}
use Prim.Native.Nat.{ℕ}
use native.Mathlib.Decide.{ℕ_discrete}
use Rattle.words.specs.Tags.{Tag, start, end}
use Rattle.words.specs.Binoid.{Binoid, Laws}
use Rattle.words.specs.Reduced.{Stack, bottom, push, OnlyEnds, EndsFirst}
use Rattle.words.specs.Reader.{Outcome, reduced, differ, meet, step, then_tag, then_value}
use Rattle.words.proofs.ReducedLaws.{GoodStack}

-- what an outcome keeps where it is a form

module _ {H : Type 0} where
  abbrev pub GoodOutcome : (H → Type 0) → Outcome H → Type 0
  GoodOutcome G (reduced s c) = GoodStack G s × G c
  GoodOutcome G (differ a b) = Unit {0}

  abbrev pub Ordered : Outcome H → Type 0
  Ordered (reduced s c) = EndsFirst s
  Ordered (differ a b) = Unit {0}

module _ (B : Binoid) where
  -- the cases of a step

  meet_same : (a : ℕ) (d : Dec (a ≡ a)) (s : Stack B.H) (h c : B.H)
      → meet B a a d s h c ≡ reduced s (B.compose h (B.wrap a c))
  unfolding meet
  meet_same a (yes e) s h c = refl
  meet_same a (no e) s h c = absurd (e refl)

  meet_other : (a b : ℕ) (d : Dec (a ≡ b)) → (a ≡ b → ⊥) → (s : Stack B.H) (h c : B.H) → meet B a b d s h c ≡ differ a b
  unfolding meet
  meet_other a b (yes e) n s h c = absurd (n e)
  meet_other a b (no e) n s h c = refl

  pub step_start : (s : Stack B.H) (c : B.H) (a : ℕ) → step B s c (start a) ≡ reduced (push s c (start a)) B.unit
  unfolding step
  step_start s c a = refl

  pub step_end : (s : Stack B.H) (c : B.H) (b : ℕ) → OnlyEnds s → step B s c (end b) ≡ reduced (push s c (end b)) B.unit
  unfolding step
  step_end bottom c b e = refl
  step_end (push s h (start a)) c b e = absurd e
  step_end (push s h (end a)) c b e = refl

  -- a tag that keeps end tags before start tags is left unmatched
  pub step_push : (s : Stack B.H) (c : B.H) (t : Tag) → EndsFirst (push s c t)
      → step B s c t ≡ reduced (push s c t) B.unit
  step_push s c (start a) f = step_start s c a
  step_push s c (end b) f = step_end s c b f

  pub step_same : (s : Stack B.H) (h c : B.H) (a : ℕ)
      → step B (push s h (start a)) c (end a) ≡ reduced s (B.compose h (B.wrap a c))
  unfolding step
  step_same s h c a = meet_same a (ℕ_discrete a a) s h c

  pub step_other : (s : Stack B.H) (h c : B.H) (a b : ℕ) → (a ≡ b → ⊥)
      → step B (push s h (start a)) c (end b) ≡ differ a b
  unfolding step
  step_other s h c a b n = meet_other a b (ℕ_discrete a b) n s h c

  -- a tag or a value after an outcome

  pub tag_reduced : (s : Stack B.H) (c : B.H) (t : Tag) → then_tag B (reduced s c) t ≡ step B s c t
  unfolding then_tag
  tag_reduced s c t = refl

  pub value_reduced : (s : Stack B.H) (c h : B.H) → then_value B (reduced s c) h ≡ reduced s (B.compose c h)
  unfolding then_value
  value_reduced s c h = refl

  pub value_differ : (a b : ℕ) (h : B.H) → then_value B (differ a b) h ≡ differ a b
  unfolding then_value
  value_differ a b h = refl

  -- end tags stay before start tags

  ordered_meet : (a b : ℕ) (d : Dec (a ≡ b)) (s : Stack B.H) (h c : B.H) → EndsFirst s → Ordered (meet B a b d s h c)
  unfolding meet
  ordered_meet a b (yes e) s h c f = f
  ordered_meet a b (no e) s h c f = tt

  pub ordered_step : (s : Stack B.H) (c : B.H) (t : Tag) → EndsFirst s → Ordered (step B s c t)
  unfolding step
  ordered_step s c (start a) f = f
  ordered_step bottom c (end b) f = tt
  ordered_step (push s h (start a)) c (end b) f = ordered_meet a b (ℕ_discrete a b) s h c f
  ordered_step (push s h (end a)) c (end b) f = f

  pub ordered_tag : (o : Outcome B.H) (t : Tag) → Ordered o → Ordered (then_tag B o t)
  unfolding then_tag
  ordered_tag (reduced s c) t f = ordered_step s c t f
  ordered_tag (differ a b) t f = tt

  pub ordered_value : (o : Outcome B.H) (h : B.H) → Ordered o → Ordered (then_value B o h)
  unfolding then_value
  ordered_value (reduced s c) h f = f
  ordered_value (differ a b) h f = tt

  -- values stay good

  module _ (L : Laws B) where
    good_meet : (a b : ℕ) (d : Dec (a ≡ b)) (s : Stack B.H) (h c : B.H) → GoodStack L.Good s → L.Good h → L.Good c
        → GoodOutcome L.Good (meet B a b d s h c)
    unfolding meet
    good_meet a b (yes e) s h c gs gh gc = (gs, L.good_compose gh (L.good_wrap gc))
    good_meet a b (no e) s h c gs gh gc = tt

    pub good_step : (s : Stack B.H) (c : B.H) (t : Tag) → GoodStack L.Good s → L.Good c
        → GoodOutcome L.Good (step B s c t)
    unfolding step
    good_step s c (start a) gs gc = ((gs, gc), L.good_unit)
    good_step bottom c (end b) gs gc = ((gs, gc), L.good_unit)
    good_step (push s h (start a)) c (end b) (gs, gh) gc = good_meet a b (ℕ_discrete a b) s h c gs gh gc
    good_step (push s h (end a)) c (end b) gs gc = ((gs, gc), L.good_unit)

    pub good_tag : (o : Outcome B.H) (t : Tag) → GoodOutcome L.Good o → GoodOutcome L.Good (then_tag B o t)
    unfolding then_tag
    good_tag (reduced s c) t (gs, gc) = good_step s c t gs gc
    good_tag (differ a b) t g = tt

    pub good_value : (o : Outcome B.H) (h : B.H) → GoodOutcome L.Good o → L.Good h
        → GoodOutcome L.Good (then_value B o h)
    unfolding then_value
    good_value (reduced s c) h (gs, gc) gh = (gs, L.good_compose gc gh)
    good_value (differ a b) h g gh = tt

    -- the unit changes nothing
    pub value_unit : (o : Outcome B.H) → GoodOutcome L.Good o → then_value B o B.unit ≡ o
    value_unit (reduced s c) (gs, gc) = rw (value_reduced, L.unit_right gc)
    value_unit (differ a b) g = value_differ a b B.unit
