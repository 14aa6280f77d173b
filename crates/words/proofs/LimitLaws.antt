-- Joining that stops at the first tag too many says the same as a test of its end (specs/Reader.antt). While the right form's end tags
-- are joined the left form has only end tags, or no more tags than at first; so a form above the limit never loses a tag again, and
-- no mismatch is missed. Assumes nothing.
use mathlib.Core.Path.{◌≡◌, refl, sym, subst}
use mathlib.Core.Logic.{◌⊎◌, inl, inr, ◌↔◌}
use Prim.Native.Nat.{ℕ, ◌≤◌, ◌<◌}
use native.Mathlib.Decide.{ℕ_discrete, dec_le}
use native.Mathlib.Omega.{arith}
use Rattle.words.specs.Tags.{Tag, start, end}
use Rattle.words.specs.Binoid.{Binoid}
use Rattle.words.specs.Reduced.{Stack, bottom, push, OnlyEnds, EndsFirst, tags}
use Rattle.words.specs.Reader.{Outcome, reduced, differ, Limited, fits, differs, too_deep}
use Rattle.words.specs.Reader.{meet, step, then_tag, then_value, join}
use Rattle.words.specs.Reader.{fit, limit, then_tag_within, then_value_within, join_within}
use Rattle.words.proofs.ReducedLaws.{ends_first_below}

-- what an answer under the limit says of the outcome without one
module _ {H : Type 0} (n : ℕ) where
  abbrev pub Answers : Outcome H → Limited H → Type 0
  Answers o (fits s c) = (o ≡ reduced s c) × (tags s ≤ n)
  Answers o (differs a b) = o ≡ differ a b
  Answers o too_deep = (s : Stack H) × (c : H) × (o ≡ reduced s c) × (n < tags s)

module _ (B : Binoid) (n : ℕ) where
  -- the answers of a limit

  fit_in : (s : Stack B.H) (c : B.H) (d : Dec (tags s ≤ n)) → tags s ≤ n → fit B n s c d ≡ fits s c
  unfolding fit
  fit_in s c (yes p) l = refl
  fit_in s c (no p) l = absurd (p l)

  fit_out : (s : Stack B.H) (c : B.H) (d : Dec (tags s ≤ n)) → n < tags s → fit B n s c d ≡ too_deep
  unfolding fit
  fit_out s c (yes p) l = absurd (omega arith)
  fit_out s c (no p) l = refl

  pub limit_in : (s : Stack B.H) (c : B.H) → tags s ≤ n → limit B n (reduced s c) ≡ fits s c
  unfolding limit
  limit_in s c l = fit_in s c (dec_le (tags s) n) l

  pub limit_out : (s : Stack B.H) (c : B.H) → n < tags s → limit B n (reduced s c) ≡ too_deep
  unfolding limit
  limit_out s c l = fit_out s c (dec_le (tags s) n) l

  pub limit_differ : (a b : ℕ) → limit B n (differ a b) ≡ differs a b
  unfolding limit
  limit_differ a b = refl

  answers_fit : (s : Stack B.H) (c : B.H) (d : Dec (tags s ≤ n)) → Answers n (reduced s c) (fit B n s c d)
  unfolding fit
  answers_fit s c (yes p) = (refl, p)
  answers_fit s c (no p) = (s, c, refl, omega arith)

  answers_limit : (o : Outcome B.H) → Answers n o (limit B n o)
  unfolding limit
  answers_limit (reduced s c) = answers_fit s c (dec_le (tags s) n)
  answers_limit (differ a b) = refl

  limit_answers : (o : Outcome B.H) (l : Limited B.H) → Answers n o l → limit B n o ≡ l
  limit_answers o (fits s c) (e, l) = rw e (limit_in s c l)
  limit_answers o (differs a b) e = rw e (limit_differ a b)
  limit_answers o too_deep (s, c, e, l) = rw e (limit_out s c l)

  pub limit_iff : (o : Outcome B.H) (l : Limited B.H) → (limit B n o ≡ l) ↔ Answers n o l
  limit_iff o l = (λ e. subst (λ l. Answers n o l) e (answers_limit o), limit_answers o l)

  -- what the end tags of the right form leave: only end tags, or no more tags than the limit

  abbrev Sunk : Outcome B.H → Type 0
  Sunk (reduced s c) = EndsFirst s × (OnlyEnds s ⊎ (tags s ≤ n))
  Sunk (differ a b) = Unit {0}

  sunk_meet : (a b : ℕ) (d : Dec (a ≡ b)) (s : Stack B.H) (h c : B.H) → EndsFirst s → tags s ≤ n → Sunk (meet B a b d s h c)
  unfolding meet
  sunk_meet a b (yes e) s h c f l = (f, inr l)
  sunk_meet a b (no e) s h c f l = tt

  sunk_end : (o : Outcome B.H) (b : ℕ) → Sunk o → Sunk (then_tag B o (end b))
  unfolding then_tag step tags
  sunk_end (reduced bottom c) b k = (tt, inl tt)
  sunk_end (reduced (push s h (start a)) c) b (f, inl e) = absurd e
  sunk_end (reduced (push s h (start a)) c) b (f, inr l) = sunk_meet a b (ℕ_discrete a b) s h c f (omega arith)
  sunk_end (reduced (push s h (end a)) c) b (f, k) = (f, inl f)
  sunk_end (differ a d) b k = tt

  sunk_value : (o : Outcome B.H) (h : B.H) → Sunk o → Sunk (then_value B o h)
  unfolding then_value
  sunk_value (reduced s c) h k = k
  sunk_value (differ a b) h k = k

  sunk_join : (o : Outcome B.H) → Sunk o → (s : Stack B.H) (c : B.H) → OnlyEnds s → Sunk (join B o s c)
  unfolding join
  sunk_join o k bottom c e = sunk_value o c k
  sunk_join o k (push s h (start a)) c e = absurd e
  sunk_join o k (push s h (end a)) c e =
      sunk_value (then_tag B (join B o s h) (end a)) c (sunk_end (join B o s h) a (sunk_join o k s h e))

  -- a tag after a form above the limit leaves it above

  abbrev StaysOver : Outcome B.H → Tag → Type 0
  StaysOver (reduced s c) t = n < tags s → limit B n (step B s c t) ≡ too_deep
  StaysOver (differ a b) t = Unit {0}

  over_start : (o : Outcome B.H) (a : ℕ) → StaysOver o (start a)
  unfolding step tags
  over_start (reduced s c) a = λ l. limit_out (push s c (start a)) B.unit (omega arith)
  over_start (differ d e) a = tt

  over_end : (o : Outcome B.H) (b : ℕ) → Sunk o → StaysOver o (end b)
  unfolding step tags
  over_end (reduced bottom c) b k = λ l. absurd (omega arith)
  over_end (reduced (push s h (start a)) c) b (f, inl e) = absurd e
  over_end (reduced (push s h (start a)) c) b (f, inr m) = λ l. absurd (omega arith)
  over_end (reduced (push s h (end a)) c) b k = λ l. limit_out (push (push s h (end a)) c (end b)) B.unit (omega arith)
  over_end (differ d e) b k = tt

  -- the limit at each step and at the end

  limit_value : (o : Outcome B.H) (h : B.H) → then_value_within B (limit B n o) h ≡ limit B n (then_value B o h)
  unfolding then_value then_value_within limit fit
  limit_value (reduced s c) h = from (dec_le (tags s) n)
    where
      from : (d : Dec (tags s ≤ n)) → then_value_within B (fit B n s c d) h ≡ fit B n s (B.compose c h) d
      from (yes p) = refl
      from (no p) = refl
  limit_value (differ a b) h = refl

  limit_tag : (o : Outcome B.H) (t : Tag) → StaysOver o t → then_tag_within B n (limit B n o) t ≡ limit B n (then_tag B o t)
  unfolding then_tag then_tag_within limit fit
  limit_tag (reduced s c) t v = from (dec_le (tags s) n)
    where
      from : (d : Dec (tags s ≤ n)) → then_tag_within B n (fit B n s c d) t ≡ limit B n (step B s c t)
      from (yes p) = refl
      from (no p) = sym (v (omega arith))
  limit_tag (differ a b) t v = refl

  module _ (s : Stack B.H) (c : B.H) (f : EndsFirst s) (l : tags s ≤ n) where
    over_join : (r : Stack B.H) (h : B.H) (t : Tag) → EndsFirst (push r h t) → StaysOver (join B (reduced s c) r h) t
    over_join r h (start a) g = over_start (join B (reduced s c) r h) a
    over_join r h (end a) g = over_end (join B (reduced s c) r h) a (sunk_join (reduced s c) (f, inr l) r h g)

    -- to stop at the first tag too many is to test the end
    pub join_within_limit : (r : Stack B.H) (d : B.H) → EndsFirst r
        → join_within B n (fits s c) r d ≡ limit B n (join B (reduced s c) r d)
    unfolding join_within join
    join_within_limit bottom d g = rw (← (limit_value (reduced s c) d), limit_in s c l)
    join_within_limit (push r h t) d g =
        let o = join B (reduced s c) r h in
        rw (← (limit_value (then_tag B o t) d), ← (limit_tag o t (over_join r h t g)), join_within_limit r h (ends_first_below r h t g))
