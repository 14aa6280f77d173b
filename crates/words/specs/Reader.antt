-- Reading and joining as they are carried out, over any binoid. Rules, section 7: reading takes one tag at a time, from the left; joining
-- goes from the seam outward, where the right form's first end meets the start that the left opened last. That they give the
-- reduced form is shown in proofs/ReadLaws.antt and proofs/JoinLaws.antt.
use Rattle.std.specs.Prelude.{◌≡◌, List, [], ◌∷◌, ℕ, ◌≤◌}
use Rattle.std.proofs.Math.Decide.{ℕ_discrete, dec_le}
use Rattle.words.specs.Tags.{Tag, start, end}
use Rattle.words.specs.Binoid.{Binoid}
use Rattle.words.specs.Reduced.{Stack, bottom, push, tags}

-- a reduced form, or the names of the start and the end tag that met and differ
pub data Outcome (H : Type 0) : Type 0 where
  reduced : Stack H → H → Outcome H
  differ : ℕ → ℕ → Outcome H

-- the same under a limit on the number of tags
pub data Limited (H : Type 0) : Type 0 where
  fits : Stack H → H → Limited H
  differs : ℕ → ℕ → Limited H
  too_deep : Limited H

module _ (B : Binoid) where
  -- the word before any tag is read
  abbrev pub nothing_read : Outcome B.H
  nothing_read = reduced bottom B.unit

  -- start a, a balanced word of value c, end b, after a form with the last value h
  unfoldable pub meet : (a b : ℕ) → Dec (a ≡ b) → Stack B.H → B.H → B.H → Outcome B.H
  meet a b (yes e) s h c = reduced s (B.compose h (B.wrap a c))
  meet a b (no e) s h c = differ a b

  -- one tag more
  unfoldable pub step : Stack B.H → B.H → Tag → Outcome B.H
  step s c (start a) = reduced (push s c (start a)) B.unit
  step bottom c (end b) = reduced (push bottom c (end b)) B.unit
  step (push s h (start a)) c (end b) = meet a b (ℕ_discrete a b) s h c
  step (push s h (end a)) c (end b) = reduced (push (push s h (end a)) c (end b)) B.unit

  unfoldable pub then_tag : Outcome B.H → Tag → Outcome B.H
  then_tag (reduced s c) t = step s c t
  then_tag (differ a b) t = differ a b

  -- one tag after the other, from the left
  unfoldable pub run : Outcome B.H → List Tag → Outcome B.H
  run o [] = o
  run o (t ∷ w) = run (then_tag o t) w

  unfoldable pub read : List Tag → Outcome B.H
  read w = run nothing_read w

  -- a balanced word of value h more
  unfoldable pub then_value : Outcome B.H → B.H → Outcome B.H
  then_value (reduced s c) h = reduced s (B.compose c h)
  then_value (differ a b) h = differ a b

  -- the right form's values and tags in their order: its first end meets the start opened last, the next the one before, outward
  unfoldable pub join : Outcome B.H → Stack B.H → B.H → Outcome B.H
  join o bottom c = then_value o c
  join o (push s h t) c = then_value (then_tag (join o s h) t) c

  -- at most n tags
  unfoldable pub fit : (n : ℕ) (s : Stack B.H) (c : B.H) → Dec (tags s ≤ n) → Limited B.H
  fit n s c (yes p) = fits s c
  fit n s c (no p) = too_deep

  unfoldable pub limit : ℕ → Outcome B.H → Limited B.H
  limit n (reduced s c) = fit n s c (dec_le (tags s) n)
  limit n (differ a b) = differs a b

  -- one tag more, and a value more, under the limit
  unfoldable pub then_tag_within : ℕ → Limited B.H → Tag → Limited B.H
  then_tag_within n (fits s c) t = limit n (step s c t)
  then_tag_within n (differs a b) t = differs a b
  then_tag_within n too_deep t = too_deep

  unfoldable pub then_value_within : Limited B.H → B.H → Limited B.H
  then_value_within (fits s c) h = fits s (B.compose c h)
  then_value_within (differs a b) h = differs a b
  then_value_within too_deep h = too_deep

  -- joining that stops at the first tag that is one too many
  unfoldable pub join_within : ℕ → Limited B.H → Stack B.H → B.H → Limited B.H
  join_within n o bottom c = then_value_within o c
  join_within n o (push s h t) c = then_value_within (then_tag_within n (join_within n o s h) t) c
