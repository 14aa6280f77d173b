-- The reader gives the reduced form (specs/Reader.antt, specs/Reduced.antt), over any binoid with its laws. What the reader has told of
-- the tags read so far stays true with each tag, so its end is a reduced form or a mismatch of the whole word. And a word with a reduced
-- form is read to that form, part by part. Uniqueness follows: there is one reader. Assumes nothing.
use mathlib.Core.Path.{◌≡◌, refl, sym, ap, ◌∙◌}
use mathlib.Core.List.{List, [], ◌∷◌, ◌++◌, append_assoc, append-nil}
use Prim.Native.Nat.{ℕ}
use native.Mathlib.Decide.{ℕ_discrete}
use Rattle.words.specs.Tags.{Tag, start, end}
use Rattle.words.specs.Balance.{Balanced, Mismatched, clash}
use Rattle.words.specs.Binoid.{Binoid, Laws, Value, value_empty, value_element}
use Rattle.words.specs.Reduced.{Stack, bottom, push, Reduced, whole, after_end, after_start}
use Rattle.words.specs.Reader.{Outcome, reduced, differ, nothing_read, meet, step, then_tag, run, read, then_value}
use Rattle.words.proofs.BalanceLaws.{mismatched_append}
use Rattle.words.proofs.ValueLaws.{value_balanced, value_good, value_single}
use Rattle.words.proofs.ReducedLaws.{balanced_iff, reduced_append}
use Rattle.words.proofs.StepLaws.{GoodOutcome, step_start, step_end, step_same, tag_reduced, good_tag}

module _ (B : Binoid) where
  -- reading on

  pub run_nil : (o : Outcome B.H) → run B o [] ≡ o
  unfolding run
  run_nil o = refl

  pub run_cons : (o : Outcome B.H) (t : Tag) (w : List Tag) → run B o (t ∷ w) ≡ run B (then_tag B o t) w
  unfolding run
  run_cons o t w = refl

  pub run_append : (o : Outcome B.H) (u v : List Tag) → run B o (u ++ v) ≡ run B (run B o u) v
  unfolding run
  run_append o [] v = refl
  run_append o (t ∷ u) v = run_append (then_tag B o t) u v

  pub run_differ : (a b : ℕ) (w : List Tag) → run B (differ a b) w ≡ differ a b
  unfolding run then_tag
  run_differ a b [] = refl
  run_differ a b (t ∷ w) = run_differ a b w

  pub run_tag : (s : Stack B.H) (c : B.H) (t : Tag) (w : List Tag) → run B (reduced s c) (t ∷ w) ≡ run B (step B s c t) w
  run_tag s c t w = rw (run_cons, tag_reduced)

  -- what is known of a word that was read
  abbrev pub Told : List Tag → Outcome B.H → Type 0
  Told w (reduced s c) = Reduced B w s c
  Told w (differ a b) = Mismatched w

  module _ (L : Laws B) where
    pub good_run : (o : Outcome B.H) (w : List Tag) → GoodOutcome L.Good o → GoodOutcome L.Good (run B o w)
    good_run o [] g = rw run_nil g
    good_run o (t ∷ w) g = rw run_cons (good_run (then_tag B o t) w (good_tag B L o t g))

    -- a balanced word only multiplies the last value

    pub run_value : {w : List Tag} {h : B.H} → Value B w h → (s : Stack B.H) (c : B.H) → L.Good c
        → run B (reduced s c) w ≡ reduced s (B.compose c h)
    run_value value_empty s c g = rw (run_nil, L.unit_right g)
    run_value (value_element {a = a} {u = u} {v = v} {h = h} {k = k} p q) s c g =
        let w : L.Good (B.wrap a h) = L.good_wrap (value_good B L p) in
        rw (
          run_tag s c (start a),
          step_start,
          run_append (reduced (push s c (start a)) B.unit) u (end a ∷ v),
          run_value p (push s c (start a)) B.unit L.good_unit,
          L.unit_left (value_good B L p),
          run_tag,
          step_same,
          run_value q s (B.compose c (B.wrap a h)) (L.good_compose g w),
        )
        (ap (reduced s) (L.assoc g w (value_good B L q)))

    pub run_unit : {w : List Tag} {h : B.H} → Value B w h → (s : Stack B.H) → run B (reduced s B.unit) w ≡ reduced s h
    run_unit p s = rw (run_value p s B.unit L.good_unit, L.unit_left (value_good B L p))

    pub run_then_value : {w : List Tag} {h : B.H} → Value B w h → (o : Outcome B.H) → GoodOutcome L.Good o
        → run B o w ≡ then_value B o h
    unfolding then_value
    run_then_value {w} p (reduced s c) g = run_value p s c g.1
    run_then_value {w} p (differ a b) g = run_differ a b w

    pub run_tag_value : {v : List Tag} {h : B.H} → Value B v h → (o : Outcome B.H) → GoodOutcome L.Good o
        → (u : List Tag) (t : Tag) → run B o (u ++ (t ∷ v)) ≡ then_value B (then_tag B (run B o u) t) h
    run_tag_value p o g u t =
        rw (run_append, run_cons) (run_then_value p (then_tag B (run B o u) t) (good_tag B L (run B o u) t (good_run o u g)))

    -- what the reader tells is so

    told_meet : {u v : List Tag} {s : Stack B.H} {h c : B.H} (a b : ℕ) (d : Dec (a ≡ b)) → Reduced B u s h → Value B v c
        → Told ((u ++ (start a ∷ v)) ++ (end b ∷ [])) (meet B a b d s h c)
    unfolding meet
    told_meet a b (yes e) r p = rw (← e, append_assoc) (reduced_append B L r (value_single B L p))
    told_meet {u} a b (no e) r p = rw append_assoc (clash u [] (value_balanced B p) e)

    pub told_step : {w : List Tag} {s : Stack B.H} {c : B.H} → Reduced B w s c → (t : Tag)
        → Told (w ++ (t ∷ [])) (step B s c t)
    unfolding step
    told_step r (start a) = after_start r value_empty
    told_step (whole p) (end b) = after_end tt (whole p) value_empty
    told_step (after_end n r p) (end b) = after_end n (after_end n r p) value_empty
    told_step (after_start {a = a} r p) (end b) = told_meet a b (ℕ_discrete a b) r p

    pub told_tag : (w : List Tag) (o : Outcome B.H) → Told w o → (t : Tag) → Told (w ++ (t ∷ [])) (then_tag B o t)
    unfolding then_tag
    told_tag w (reduced s c) r t = told_step r t
    told_tag w (differ a b) m t = mismatched_append (t ∷ []) m

    pub told_run : (u : List Tag) (o : Outcome B.H) → Told u o → (w : List Tag) → Told (u ++ w) (run B o w)
    told_run u o r [] = rw (append-nil, run_nil) r
    told_run u o r (t ∷ w) =
        rw run_cons (rw append_assoc at (told_run (u ++ (t ∷ [])) (then_tag B o t) (told_tag u o r t) w))

    pub told_read : (w : List Tag) → Told w (read B w)
    unfolding read
    told_read w = told_run [] (nothing_read B) (whole value_empty) w

    -- what the definition says is what the reader gives

    pub run_reduced : {w : List Tag} {s : Stack B.H} {c : B.H} → Reduced B w s c → run B (nothing_read B) w ≡ reduced s c
    run_reduced (whole p) = run_unit p bottom
    run_reduced (after_end {u = u} {v = v} {s = s} {h = h} {a = a} n r p) =
        rw (run_append (nothing_read B) u (end a ∷ v), run_reduced r, run_tag, step_end B s h a n) (run_unit p (push s h (end a)))
    run_reduced (after_start {u = u} {v = v} {s = s} {h = h} {a = a} r p) =
        rw (run_append (nothing_read B) u (start a ∷ v), run_reduced r, run_tag, step_start) (run_unit p (push s h (start a)))

    pub read_reduced : {w : List Tag} {s : Stack B.H} {c : B.H} → Reduced B w s c → read B w ≡ reduced s c
    unfolding read
    read_reduced r = run_reduced r

    pub reduced_unique : {w : List Tag} {s r : Stack B.H} {c d : B.H} → Reduced B w s c → Reduced B w r d → (s ≡ r) × (c ≡ d)
    reduced_unique {s = s} {r = r} {c = c} {d = d} p q =
        let e : reduced s c ≡ reduced r d = sym (read_reduced p) ∙ read_reduced q in (cc e, cc e)

    -- a balanced word's form has no tags
    pub balanced_bottom : {w : List Tag} {s : Stack B.H} {c : B.H} → Balanced w → Reduced B w s c → s ≡ bottom
    balanced_bottom b r = (reduced_unique r ((balanced_iff B).0 b).1).0

    pub value_unique : {w : List Tag} {h k : B.H} → Value B w h → Value B w k → h ≡ k
    value_unique p q = (reduced_unique (whole p) (whole q)).1
