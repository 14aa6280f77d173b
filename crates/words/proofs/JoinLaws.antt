-- Joining is reading on (specs/Reader.antt): a word is read from any outcome as its reduced form is joined to that outcome, tag by tag
-- and value by value. So joining the forms of two words gives the form of the two in a row, or they are mismatched in a row. Forms that
-- no word has are joined in the same way, and what joining keeps of them is shown too, and that the forms of no tag and of one tag join
-- as nothing and as that tag. Assumes nothing.
use mathlib.Core.Path.{◌≡◌, refl, ◌∙◌, subst}
use mathlib.Core.List.{List, ◌++◌}
use mathlib.Core.Logic.{◌↔◌}
use Prim.Native.Nat.{ℕ}
use Rattle.words.specs.Tags.{Tag, start, end}
use Rattle.words.specs.Balance.{Mismatched}
use Rattle.words.specs.Binoid.{Binoid, Laws}
use Rattle.words.specs.Reduced.{Stack, bottom, push, EndsFirst, Reduced, whole, after_end, after_start}
use Rattle.words.specs.Reader.{Outcome, reduced, differ, nothing_read, then_tag, run, then_value, join}
use Rattle.words.proofs.ReducedLaws.{GoodStack, ends_first_below, reduced_good}
use Rattle.words.proofs.StepLaws.{GoodOutcome, Ordered, step_push, tag_reduced, value_reduced}
use Rattle.words.proofs.StepLaws.{ordered_tag, ordered_value, good_tag, good_value, value_unit}
use Rattle.words.proofs.ReadLaws.{Told, run_then_value, run_tag_value, told_run}
use Rattle.words.proofs.MismatchLaws.{told_reduced, told_differ}

module _ (B : Binoid) where
  -- none, and next

  pub join_bottom : (o : Outcome B.H) (c : B.H) → join B o bottom c ≡ then_value B o c
  unfolding join
  join_bottom o c = refl

  pub join_push : (o : Outcome B.H) (s : Stack B.H) (h : B.H) (t : Tag) (c : B.H)
      → join B o (push s h t) c ≡ then_value B (then_tag B (join B o s h) t) c
  unfolding join
  join_push o s h t c = refl

  -- what joining keeps

  pub ordered_join : (o : Outcome B.H) (s : Stack B.H) (c : B.H) → Ordered o → Ordered (join B o s c)
  unfolding join
  ordered_join o bottom c f = ordered_value B o c f
  ordered_join o (push s h t) c f =
      ordered_value B (then_tag B (join B o s h) t) c (ordered_tag B (join B o s h) t (ordered_join o s h f))

  pub join_ends_first : (s r t : Stack B.H) (c d e : B.H) → EndsFirst s → join B (reduced s c) r d ≡ reduced t e → EndsFirst t
  join_ends_first s r t c d e f p = subst (λ o. Ordered o) p (ordered_join (reduced s c) r d f)

  module _ (L : Laws B) where
    pub good_join : (o : Outcome B.H) (s : Stack B.H) (c : B.H) → GoodOutcome L.Good o → GoodStack L.Good s → L.Good c
        → GoodOutcome L.Good (join B o s c)
    unfolding join
    good_join o bottom c g gs gc = good_value B L o c g gc
    good_join o (push s h t) c g (gs, gh) gc =
        good_value B L (then_tag B (join B o s h) t) c (good_tag B L (join B o s h) t (good_join o s h g gs gh)) gc

    pub join_good : (s r t : Stack B.H) (c d e : B.H) → GoodStack L.Good s → L.Good c → GoodStack L.Good r → L.Good d
        → join B (reduced s c) r d ≡ reduced t e → GoodStack L.Good t × L.Good e
    join_good s r t c d e gs gc gr gd p =
        subst (λ o. GoodOutcome L.Good o) p (good_join (reduced s c) r d (gs, gc) gr gd)

    -- reading on is joining

    pub run_join : {w : List Tag} {s : Stack B.H} {c : B.H} → Reduced B w s c → (o : Outcome B.H) → GoodOutcome L.Good o
        → run B o w ≡ join B o s c
    unfolding join
    run_join (whole p) o g = run_then_value B L p o g
    run_join (after_end {u = u} {a = a} n r p) o g = rw (run_tag_value B L p o g u (end a), run_join r o g)
    run_join (after_start {u = u} {a = a} r p) o g = rw (run_tag_value B L p o g u (start a), run_join r o g)

    -- a form joined to that of the empty word is itself
    pub join_self : (s : Stack B.H) (c : B.H) → EndsFirst s → GoodStack L.Good s → L.Good c
        → join B (nothing_read B) s c ≡ reduced s c
    join_self bottom c f g gc = rw (join_bottom, value_reduced, L.unit_left gc)
    join_self (push s h t) c f (gs, gh) gc =
        rw (join_push, join_self s h (ends_first_below s h t f) gs gh, tag_reduced, step_push B s h t f, value_reduced, L.unit_left gc)

    -- the empty word's form joined to any outcome changes nothing, and a tag's own form is a tag more

    pub join_unit : (o : Outcome B.H) → GoodOutcome L.Good o → join B o bottom B.unit ≡ o
    join_unit o g = join_bottom o B.unit ∙ value_unit B L o g

    pub join_tag : (o : Outcome B.H) (t : Tag) → GoodOutcome L.Good o
        → join B o (push bottom B.unit t) B.unit ≡ then_tag B o t
    join_tag o t g = rw (join_push, join_unit o g) (value_unit B L (then_tag B o t) (good_tag B L o t g))

    -- the forms of two words

    module _ {u v : List Tag} {s r : Stack B.H} {c d : B.H} (p : Reduced B u s c) (q : Reduced B v r d) where
      pub told_join : Told B (u ++ v) (join B (reduced s c) r d)
      told_join = rw (run_join q (reduced s c) (reduced_good B L p)) at (told_run B L u (reduced s c) p v)

      pub join_reduced : (t : Stack B.H) (e : B.H) → (join B (reduced s c) r d ≡ reduced t e) ↔ Reduced B (u ++ v) t e
      join_reduced = told_reduced B L (u ++ v) (join B (reduced s c) r d) told_join

      pub join_differ : ((a b : ℕ) × (join B (reduced s c) r d ≡ differ a b)) ↔ Mismatched (u ++ v)
      join_differ = told_differ B L (u ++ v) (join B (reduced s c) r d) told_join
