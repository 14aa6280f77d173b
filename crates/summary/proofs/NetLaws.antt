-- Net depth (specs/Joins.antt): of a joined summary it is the sum, and of a summary it is starts minus ends, at most 16 tags in all. So
-- it is 16 for 16 starts and no end alone, -16 for 16 ends and no start alone, and 0 for as many starts as ends. Assumes nothing.
use mathlib.Core.Path.{◌≡◌, sym, ap, ◌∙◌, subst}
use mathlib.Core.List.{List}
use mathlib.Core.Logic.{◌↔◌}
use Prim.Native.Nat.{ℕ, suc, ◌+◌, ◌-◌, ◌≤◌, ◌<◌}
use native.Mathlib.Decide.{dec_lt}
use native.Mathlib.Omega.{arith}
use lib.IntN.{ℤ, pos, negsuc, neg_ℤ, ◌+ℤ◌, ◌-ℤ◌}
use Rattle.std.specs.Prelude.{Ok}
use Rattle.words.specs.Reduced.{net}
use Rattle.words.proofs.DepthLaws.{net_join}
use Rattle.form.proofs.HeldLaws.{net_held}
use Rattle.pieces.specs.Pieces.{most_tags}
use Rattle.form.specs.Held.{form_of, last_of}
use Rattle.form.specs.declared.Summary.{Summary}
use Rattle.summary.specs.Replies.{JoinReply}
use Rattle.schema.specs.Schemas.{binoid_of}
use Rattle.summary.specs.Joins.{JoinAnswers, JoinSays, DepthSays}
use Rattle.summary.proofs.SignedLaws.{difference_up, difference_down}

-- ---- the difference of two counts

-- where it is n, or below none by n and one more
module _ (a b n : ℕ) where
  difference_is : (pos a -ℤ pos b ≡ pos n) ↔ (a ≡ b + n)
  difference_is = (λ e. from (dec_lt a b) e, λ e. difference_up a b (omega arith) ∙ ap pos (omega arith))
    where
      from : Dec (a < b) → pos a -ℤ pos b ≡ pos n → a ≡ b + n
      from (yes l) e = let z : ◌≡◌ {A = ℕ} 0 1 = cc (sym e ∙ difference_down a b l) in absurd (omega arith)
      from (no l) e = let d : a - b ≡ n = cc (sym (difference_up a b (omega arith)) ∙ e) in omega arith

  difference_below : (pos a -ℤ pos b ≡ negsuc n) ↔ (b ≡ a + suc n)
  difference_below = (λ e. from (dec_lt a b) e, λ e. difference_down a b (omega arith) ∙ ap negsuc (omega arith))
    where
      from : Dec (a < b) → pos a -ℤ pos b ≡ negsuc n → b ≡ a + suc n
      from (yes l) e = let d : b - suc a ≡ n = cc (sym (difference_down a b l) ∙ e) in omega arith
      from (no l) e = let z : ◌≡◌ {A = ℕ} 0 1 = cc (sym e ∙ difference_up a b (omega arith)) in absurd (omega arith)

-- ---- the net depth of a summary

module _ (f : List ℕ) (s : Summary) (z : ℤ) (says : DepthSays f s (Ok z)) where
  pub depth_few : s.counts.ends + s.counts.starts ≤ most_tags
  depth_few = says.1.few

  pub depth_counts : z ≡ pos s.counts.starts -ℤ pos s.counts.ends
  depth_counts = says.2 ∙ net_held s.counts.ends s.counts.starts s.names s.values

  pub depth_most : (z ≡ pos 16) ↔ ((s.counts.starts ≡ 16) × (s.counts.ends ≡ 0))
  depth_most =
      let h = depth_few in
      let i = difference_is s.counts.starts s.counts.ends 16 in (
        λ e. let d = i.0 (sym depth_counts ∙ e) in (omega arith, omega arith),
        λ e. let (p, q) = e in depth_counts ∙ i.1 (omega arith),
      )

  pub depth_least : (z ≡ neg_ℤ (pos 16)) ↔ ((s.counts.ends ≡ 16) × (s.counts.starts ≡ 0))
  depth_least =
      let h = depth_few in
      let i = difference_below s.counts.starts s.counts.ends 15 in (
        λ e. let d = i.0 (sym depth_counts ∙ e) in (omega arith, omega arith),
        λ e. let (p, q) = e in depth_counts ∙ i.1 (omega arith),
      )

  pub depth_none : (z ≡ pos 0) ↔ (s.counts.starts ≡ s.counts.ends)
  depth_none =
      let i = difference_is s.counts.starts s.counts.ends 0 in (
        λ e. let d = i.0 (sym depth_counts ∙ e) in omega arith,
        λ e. depth_counts ∙ i.1 (omega arith),
      )

-- ---- the net depth of a join

module _ (f : List ℕ) (left right : Summary) where
  net_of_joined : (s : Summary) → JoinAnswers f left right (Ok tt) s → net (form_of s) ≡ net (form_of left) +ℤ net (form_of right)
  net_of_joined s (h, (t, c, o, k, p)) =
      ap net p.form_is ∙ net_join (binoid_of f) (form_of left) (form_of right) t (last_of left) (last_of right) c o

  pub net_joined : (r : JoinReply) → JoinSays f left right r → r.answer ≡ Ok tt
      → net (form_of r.summary) ≡ net (form_of left) +ℤ net (form_of right)
  net_joined r says e = net_of_joined r.summary (subst (λ a. JoinAnswers f left right a r.summary) e says)
