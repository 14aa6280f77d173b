-- Facts about reduced forms by the definition alone (specs/Reduced.antt): their shape, their values, and a balanced word more at the
-- end. Each goes along the form's tags. Assumes nothing.
use mathlib.Core.List.{List, ◌++◌, append_assoc}
use mathlib.Core.Logic.{◌↔◌}
use Rattle.words.specs.Tags.{Tag, start, end}
use Rattle.words.specs.Balance.{Balanced}
use Rattle.words.specs.Binoid.{Binoid, Laws, Value}
use Rattle.words.specs.Reduced.{Stack, bottom, push, OnlyEnds, EndsFirst, Reduced, whole, after_end, after_start}
pub use Rattle.words.specs.Reduced.{GoodStack}
use Rattle.words.proofs.ValueLaws.{value_balanced, balanced_value, value_good, value_append}

-- shape and values of a stack

module _ {H : Type 0} where
  pub only_ends_first : (s : Stack H) → OnlyEnds s → EndsFirst s
  only_ends_first bottom e = tt
  only_ends_first (push s h (start a)) e = absurd e
  only_ends_first (push s h (end a)) e = e

  pub ends_first_below : (s : Stack H) (h : H) (t : Tag) → EndsFirst (push s h t) → EndsFirst s
  ends_first_below s h (start a) f = f
  ends_first_below s h (end a) f = only_ends_first s f

-- reduced forms

module _ (B : Binoid) where
  pub reduced_ends_first : {w : List Tag} {s : Stack B.H} {c : B.H} → Reduced B w s c → EndsFirst s
  reduced_ends_first (whole p) = tt
  reduced_ends_first (after_end n r p) = n
  reduced_ends_first (after_start r p) = reduced_ends_first r

  pub reduced_whole : {w : List Tag} {c : B.H} → Reduced B w bottom c → Value B w c
  reduced_whole (whole p) = p

  -- balanced exactly when no tags are left
  pub balanced_iff : {w : List Tag} → Balanced w ↔ ((c : B.H) × Reduced B w bottom c)
  balanced_iff = (λ b. let (h, v) = balanced_value B b in (h, whole v), λ r. value_balanced B (reduced_whole r.1))

  module _ (L : Laws B) where
    pub reduced_good : {w : List Tag} {s : Stack B.H} {c : B.H} → Reduced B w s c → GoodStack L.Good s × L.Good c
    reduced_good (whole p) = (tt, value_good B L p)
    reduced_good (after_end n r p) = (reduced_good r, value_good B L p)
    reduced_good (after_start r p) = (reduced_good r, value_good B L p)

    -- a balanced word more
    pub reduced_append : {u v : List Tag} {s : Stack B.H} {h c : B.H} → Reduced B u s h → Value B v c
        → Reduced B (u ++ v) s (B.compose h c)
    reduced_append (whole p) q = whole (value_append B L p q)
    reduced_append (after_end n r p) q = rw append_assoc (after_end n r (value_append B L p q))
    reduced_append (after_start r p) q = rw append_assoc (after_start r (value_append B L p q))
