-- Depth (specs/Reduced.antt): the counts of a form's tags, and its net depth, which a start tag raises and an end tag lowers by one,
-- also where the two meet and vanish. So the net depth of a join is the sum, by induction on the right form. Assumes nothing.
use mathlib.Core.Path.{◌≡◌, refl, sym, ap, ◌∙◌, subst}
use Prim.Native.Nat.{ℕ, ◌+◌}
use native.Mathlib.Decide.{ℕ_discrete}
use native.Mathlib.Omega.{arith}
use lib.IntN.{ℤ, pos, suc_ℤ, pred_ℤ, pred-suc, ◌+ℤ◌, +ℤ-suc_ℤ, +ℤ-pred_ℤ, +ℤ_idr, neg_ℤ, suc_ℤ-+ℤ, neg_ℤ-suc_ℤ}
use Rattle.words.specs.Tags.{Tag, start, end}
use Rattle.words.specs.Binoid.{Binoid}
use Rattle.words.specs.Reduced.{Stack, bottom, push, tags, starts, ends, net}
use Rattle.words.specs.Reader.{Outcome, reduced, differ, meet, step, then_tag, then_value, join}

-- one tag more or less
abbrev pub shift : Tag → ℤ → ℤ
shift (start a) x = suc_ℤ x
shift (end a) x = pred_ℤ x

pub net_bottom : (H : Type 0) → net {H = H} bottom ≡ pos 0
unfolding net starts ends
net_bottom H = refl

module _ {H : Type 0} where
  -- counts

  pub tags_counted : (s : Stack H) → tags s ≡ starts s + ends s
  unfolding tags starts ends
  tags_counted bottom = refl
  tags_counted (push s h (start a)) = let e = tags_counted s in omega arith
  tags_counted (push s h (end a)) = let e = tags_counted s in omega arith

  -- net depth

  pub net_push : (s : Stack H) (h : H) (t : Tag) → net (push s h t) ≡ shift t (net s)
  unfolding net starts ends
  net_push s h (start a) = suc_ℤ-+ℤ (pos (starts s)) (neg_ℤ (pos (ends s)))
  net_push s h (end a) =
      ap (λ k. pos (starts s) +ℤ k) (neg_ℤ-suc_ℤ (pos (ends s))) ∙ +ℤ-pred_ℤ (pos (starts s)) (neg_ℤ (pos (ends s)))

  -- the net depth of an outcome, where it is a form
  abbrev pub Net : Outcome H → ℤ → Type 0
  Net (reduced s c) x = net s ≡ x
  Net (differ a b) x = Unit {0}

shift_sum : (t : Tag) (x y : ℤ) → x +ℤ shift t y ≡ shift t (x +ℤ y)
shift_sum (start a) x y = +ℤ-suc_ℤ x y
shift_sum (end a) x y = +ℤ-pred_ℤ x y

module _ (B : Binoid) where
  -- a tag shifts it by one, a value does not change it

  net_meet : (a b : ℕ) (d : Dec (a ≡ b)) (s : Stack B.H) (h c : B.H) (x : ℤ) → suc_ℤ (net s) ≡ x
      → Net (meet B a b d s h c) (pred_ℤ x)
  unfolding meet
  net_meet a b (yes e) s h c x n = rw (← n, pred-suc)
  net_meet a b (no e) s h c x n = tt

  pub net_step : (s : Stack B.H) (c : B.H) (t : Tag) → Net (step B s c t) (shift t (net s))
  unfolding step
  net_step s c (start a) = net_push s c (start a)
  net_step bottom c (end b) = net_push bottom c (end b)
  net_step (push s h (start a)) c (end b) =
      net_meet a b (ℕ_discrete a b) s h c (net (push s h (start a))) (sym (net_push s h (start a)))
  net_step (push s h (end a)) c (end b) = net_push (push s h (end a)) c (end b)

  net_tag : (o : Outcome B.H) (t : Tag) (x : ℤ) → Net o x → Net (then_tag B o t) (shift t x)
  unfolding then_tag
  net_tag (reduced s c) t x n = subst (λ y. Net (step B s c t) (shift t y)) n (net_step s c t)
  net_tag (differ a b) t x n = tt

  net_value : (o : Outcome B.H) (h : B.H) (x : ℤ) → Net o x → Net (then_value B o h) x
  unfolding then_value
  net_value (reduced s c) h x n = n
  net_value (differ a b) h x n = tt

  net_outcome : (o : Outcome B.H) (x : ℤ) → Net o x → (s : Stack B.H) (c : B.H) → Net (join B o s c) (x +ℤ net s)
  unfolding join
  net_outcome o x n bottom c = rw (net_bottom, +ℤ_idr) (net_value o c x n)
  net_outcome o x n (push s h t) c =
      rw (net_push, shift_sum) (net_value (then_tag B (join B o s h) t) c (shift t (x +ℤ net s))
      (net_tag (join B o s h) t (x +ℤ net s) (net_outcome o x n s h)))

  -- the net depth of a join is the sum
  pub net_join : (s r t : Stack B.H) (c d e : B.H) → join B (reduced s c) r d ≡ reduced t e → net t ≡ net s +ℤ net r
  net_join s r t c d e p = subst (λ o. Net o (net s +ℤ net r)) p (net_outcome (reduced s c) (net s) refl r d)
