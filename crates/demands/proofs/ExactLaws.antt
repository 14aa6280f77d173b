-- The answers of the rounds are exact (specs/Third.antt). The rounds come to one decision, and each reply stands for one: so a reply's
-- number and round are given exactly where the rounds come to that decision. The answer does not hang on the table that is lent, as each
-- reply is also one under any other. Assumes nothing.
use Rattle.std.specs.Prelude.{Ok, Err}
use mathlib.Core.Path.{◌≡◌, refl, ap₂, subst}
use mathlib.Core.List.{List}
use Prim.Native.Nat.{ℕ, ◌≤◌}
use native.Mathlib.Omega.{arith}
use lib.ListN.{length}
use Rattle.template.specs.Order.{IsSound}
use Rattle.template.proofs.ShapeLaws.{sound_not_bad}
use Rattle.trees.specs.Verdict.{Decision, met, passed, used, Decides}
use Rattle.trees.proofs.BudgetLaws.{met_not_passed, met_not_used, passed_not_used, decides_unique}
use Rattle.worktable.specs.Packed.{table_long}
use Rattle.rounds.specs.Checks.{EventOf, NewOf, HasPage, Rows, after_pass, zeroed, Lent, Decided, CheckSays}
use Rattle.rounds.specs.Answers.{answer, number, images}
use Rattle.rounds.specs.Replies.{CheckReply}
use Rattle.rounds.specs.declared.CheckRefusal.TheVariants as check
use Rattle.demands.specs.Third.{Exact}
use Rattle.demands.proofs.Sides.{neither}

-- ---- the reply of each decision

module _ (f : List ℕ) (budget : ℕ) where
  abbrev Comes : Decision → Type 0
  Comes d = Decides (EventOf f) (NewOf f) budget d

  comes_once : {d e : Decision} → Comes d → Comes e → d ≡ e
  comes_once {d} {e} x y = decides_unique (EventOf f) (NewOf f) budget d e x y

  met_exact : (r k : ℕ) → 1 ≤ k → k ≤ 4 → Comes (met r k) → Exact f budget k r 0
  met_exact r k low high comes = record {
    event_round = λ i j l h. (
      λ (a, n). subst Comes (ap₂ met n a) comes,
      λ other. let same : met r k ≡ met j i = comes_once comes other in (cc same, cc same),
    );
    pass_round = λ j. neither (λ (a, _). omega (arith, low, a)) (λ other. met_not_passed r k j (comes_once comes other));
    total = λ a. absurd (omega (arith, low, a));
    budget_used = neither (λ (a, _). omega (arith, high, a)) (λ other. met_not_used r k (comes_once comes other));
  }

  passed_exact : (r m : ℕ) → Comes (passed r) → (rows : List (List ℕ)) → Rows f r rows → m ≡ length rows → Exact f budget 0 r m
  passed_exact r m comes rows made many = record {
    event_round = λ k j l h. neither (λ (a, _). omega (arith, l, a)) (λ other. met_not_passed j k r (comes_once other comes));
    pass_round = λ j. (
      λ (a, n). subst (λ (q : ℕ). Comes (passed q)) n comes,
      λ other. let same : passed r ≡ passed j = comes_once comes other in (refl, cc same),
    );
    total = λ a. (rows, made, many);
    budget_used = neither (λ (a, _). omega (arith, a)) (λ other. passed_not_used r (comes_once comes other));
  }

  used_exact : (b : ℕ) → b ≡ budget → Comes used → Exact f budget 5 b 0
  used_exact b e comes = record {
    event_round = λ k j l h. neither (λ (a, _). omega (arith, h, a)) (λ other. met_not_used j k (comes_once other comes));
    pass_round = λ j. neither (λ (a, _). omega (arith, a)) (λ other. passed_not_used j (comes_once other comes));
    total = λ a. absurd (omega (arith, a));
    budget_used = (λ x. comes, λ x. (refl, e));
  }

  pub check_exact : (t u : List ℕ) (r : CheckReply) → CheckSays f t budget r u → Lent f t budget → IsSound f → HasPage f
      → Exact f budget (answer r) (number r) (images r)
  check_exact t u (Ok p) ((_, _, _, comes), (rows, made, many, _)) lent sound page = passed_exact p.rounds p.images comes rows made many
  check_exact t u (Err (check.Mismatch r)) ((_, _, _, comes), _) lent sound page = met_exact r 1 (omega arith) (omega arith) comes
  check_exact t u (Err (check.Invalid r)) ((_, _, _, comes), _) lent sound page = met_exact r 2 (omega arith) (omega arith) comes
  check_exact t u (Err (check.TooDeep r)) ((_, _, _, comes), _) lent sound page = met_exact r 3 (omega arith) (omega arith) comes
  check_exact t u (Err (check.Crowded r)) ((_, _, _, comes), _) lent sound page = met_exact r 4 (omega arith) (omega arith) comes
  check_exact t u (Err (check.OutOfRounds b)) (e, (_, _, _, comes), _) lent sound page = used_exact b e comes
  check_exact t u (Err check.NoPage) (_, _, none, _) lent sound page = absurd (none page)
  check_exact t u (Err (check.BadFile p)) (_, e, _) lent sound page = absurd (sound_not_bad f p sound e)
  check_exact t u (Err check.BadBudget) (_, none, _) lent sound page = absurd (none (lent.1, lent.2))
  check_exact t u (Err check.ShortTable) (short, _) lent sound page = absurd (omega (arith, lent.0, short))

-- ---- another table that is long enough

module _ (f t u : List ℕ) (budget : ℕ) (room : table_long ≤ length t) (lent : Lent f u budget) where
  decided_moved : (d : Decision) → Decided f t budget d → Decided f u budget d
  decided_moved d (_, sound, page, comes) = (lent, sound, page, comes)

  pub check_moved : (t' : List ℕ) (r : CheckReply) → CheckSays f t budget r t' → (u' : List ℕ) × CheckSays f u budget r u'
  check_moved t' (Ok p) (d, (rows, made, many, _)) = (after_pass rows u, (decided_moved (passed p.rounds) d, (rows, made, many, refl)))
  check_moved t' (Err (check.Mismatch r)) (d, _) = (zeroed u, (decided_moved (met r 1) d, refl))
  check_moved t' (Err (check.Invalid r)) (d, _) = (zeroed u, (decided_moved (met r 2) d, refl))
  check_moved t' (Err (check.TooDeep r)) (d, _) = (zeroed u, (decided_moved (met r 3) d, refl))
  check_moved t' (Err (check.Crowded r)) (d, _) = (zeroed u, (decided_moved (met r 4) d, refl))
  check_moved t' (Err (check.OutOfRounds b)) (e, d, _) = (zeroed u, (e, decided_moved used d, refl))
  check_moved t' (Err check.NoPage) (_, sound, none, _) = (u, (lent, sound, none, refl))
  check_moved t' (Err (check.BadFile p)) (_, e, _) = (u, (lent, e, refl))
  check_moved t' (Err check.BadBudget) (_, none, _) = absurd (none (lent.1, lent.2))
  check_moved t' (Err check.ShortTable) (short, _) = absurd (omega (arith, room, short))
