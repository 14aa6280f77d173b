-- Nesting (specs/Third.antt), and the tags of a word (specs/Second.antt), by the reduced form. A word's starts less its ends are those of
-- its reduced form, as what is balanced has as many of the one as of the other. Reading on never takes an unmatched end away, so a
-- beginning of a balanced word has none: its tags left are its open elements. So a beginning with more than n tags left nests past n, and
-- the other way round. Assumes nothing.
use mathlib.Core.Path.{◌≡◌, refl, sym, ap, ◌∙◌, subst}
use mathlib.Core.List.{List, [], ◌∷◌, ◌++◌}
use Prim.Native.Nat.{ℕ, ◌+◌, ◌≤◌, ◌<◌}
use native.Mathlib.Decide.{ℕ_discrete}
use native.Mathlib.Omega.{arith}
use Rattle.words.specs.Tags.{Tag, start, end}
use Rattle.words.specs.Balance.{Balanced, empty, element}
use Rattle.words.specs.Binoid.{Binoid, Laws}
use Rattle.words.specs.Reduced.{Stack, bottom, push, tags, starts, ends, Reduced, whole, after_end, after_start}
use Rattle.words.specs.Reader.{Outcome, reduced, differ, nothing_read, meet, step, then_tag, run}
use Rattle.words.proofs.ValueLaws.{value_balanced}
use Rattle.words.proofs.ReducedLaws.{balanced_iff}
use Rattle.words.proofs.ReadLaws.{run_append, run_reduced}
use Rattle.words.proofs.DepthLaws.{tags_counted}
use Rattle.demands.specs.Second.{opened, closed}

-- ---- counting tags

opened_append : (u v : List Tag) → opened (u ++ v) ≡ opened u + opened v
unfolding opened
opened_append [] v = omega arith
opened_append (start a ∷ u) v = let e = opened_append u v in omega (arith, e)
opened_append (end a ∷ u) v = opened_append u v

closed_append : (u v : List Tag) → closed (u ++ v) ≡ closed u + closed v
unfolding closed
closed_append [] v = omega arith
closed_append (start a ∷ u) v = closed_append u v
closed_append (end a ∷ u) v = let e = closed_append u v in omega (arith, e)

balanced_counts : {w : List Tag} → Balanced w → opened w ≡ closed w
unfolding opened closed
balanced_counts empty = refl
balanced_counts (element {a = a} {u = u} {v = v} p q) =
    let e = balanced_counts p in
    let d = balanced_counts q in
    let i = opened_append u (end a ∷ v) in
    let j = closed_append u (end a ∷ v) in
    omega (arith, e, d, i, j)

module _ (B : Binoid) where
  pub reduced_counts : {w : List Tag} {s : Stack B.H} {c : B.H} → Reduced B w s c → opened w + ends s ≡ closed w + starts s
  unfolding opened closed ends starts
  reduced_counts (whole p) = let e = balanced_counts (value_balanced B p) in omega (arith, e)
  reduced_counts (after_end {u = u} {v = v} {a = a} n r p) =
      let e = reduced_counts r in
      let d = balanced_counts (value_balanced B p) in
      let i = opened_append u (end a ∷ v) in
      let j = closed_append u (end a ∷ v) in
      omega (arith, e, d, i, j)
  reduced_counts (after_start {u = u} {v = v} {a = a} r p) =
      let e = reduced_counts r in
      let d = balanced_counts (value_balanced B p) in
      let i = opened_append u (start a ∷ v) in
      let j = closed_append u (start a ∷ v) in
      omega (arith, e, d, i, j)

  -- ---- unmatched ends stay

  abbrev EndsLeft : ℕ → Outcome B.H → Type 0
  EndsLeft n (reduced s c) = n ≤ ends s
  EndsLeft n (differ a b) = Unit {0}

  ends_meet : (n a b : ℕ) (d : Dec (a ≡ b)) (s : Stack B.H) (h c : B.H) → n ≤ ends s → EndsLeft n (meet B a b d s h c)
  unfolding meet
  ends_meet n a b (yes e) s h c l = l
  ends_meet n a b (no e) s h c l = tt

  ends_step : (n : ℕ) (s : Stack B.H) (c : B.H) (t : Tag) → n ≤ ends s → EndsLeft n (step B s c t)
  unfolding step ends
  ends_step n s c (start a) l = l
  ends_step n bottom c (end b) l = omega (arith, l)
  ends_step n (push s h (start a)) c (end b) l = ends_meet n a b (ℕ_discrete a b) s h c l
  ends_step n (push s h (end a)) c (end b) l = omega (arith, l)

  ends_tag : (n : ℕ) (o : Outcome B.H) (t : Tag) → EndsLeft n o → EndsLeft n (then_tag B o t)
  unfolding then_tag
  ends_tag n (reduced s c) t l = ends_step n s c t l
  ends_tag n (differ a b) t l = tt

  ends_run : (n : ℕ) (o : Outcome B.H) (w : List Tag) → EndsLeft n o → EndsLeft n (run B o w)
  unfolding run
  ends_run n o [] l = l
  ends_run n o (t ∷ w) l = ends_run n (then_tag B o t) w (ends_tag n o t l)

  -- ---- the tags left are the open elements

  pub nests_deep : {x : List Tag} {s : Stack B.H} {c : B.H} → Reduced B x s c → (n : ℕ) → closed x + n < opened x → n < tags s
  nests_deep {s = s} form n nests =
      let e = reduced_counts form in
      let k = tags_counted s in
      omega (arith, nests, e, k)

  module _ (L : Laws B) (x y : List Tag) (s : Stack B.H) (c : B.H) (form : Reduced B x s c) where
    beginning_ends : Balanced (x ++ y) → ends s ≤ 0
    unfolding ends
    beginning_ends balanced =
        let (d, all) = (balanced_iff B).0 balanced in
        let on : run B (nothing_read B) (x ++ y) ≡ run B (reduced s c) y =
        run_append B (nothing_read B) x y ∙ ap (λ (o : Outcome B.H). run B o y) (run_reduced B L form) in
        let read : run B (reduced s c) y ≡ reduced bottom d = sym on ∙ run_reduced B L all in
        subst (EndsLeft (ends s)) read (ends_run (ends s) (reduced s c) y (omega arith))

    pub deep_nests : (n : ℕ) → Balanced (x ++ y) → n < tags s → closed x + n < opened x
    deep_nests n balanced deep =
        let e = reduced_counts form in
        let h = beginning_ends balanced in
        let k = tags_counted s in
        omega (arith, deep, e, h, k)
