-- The budget and the answer. A larger one, from 1 to 257, changes no answer other than 5, that the budget was used; and with 257 the
-- answer is never 5, since one round more than there may be images meets event 4. Assumes nothing.
use mathlib.Core.Path.{◌≡◌, refl}
use mathlib.Core.List.{List}
use Prim.Native.Nat.{ℕ, ◌≤◌}
use native.Mathlib.Omega.{arith}
use Rattle.std.specs.Prelude.{Ok, Err}
use Rattle.hedge.specs.Schema.{Valid}
use Rattle.pieces.specs.Pieces.{most_tags}
use Rattle.schema.specs.Schemas.{schema_of, binoid_of}
use Rattle.trees.specs.Verdict.{Decision, met, passed, used}
use Rattle.trees.proofs.BudgetLaws.{met_not_used, passed_not_used, decides_larger, decided_first}
use Rattle.worktable.specs.Packed.{most_images}
use Rattle.rounds.specs.declared.CheckRefusal.TheVariants as check
use Rattle.rounds.specs.Replies.{CheckReply}
use Rattle.rounds.specs.Answers.{answer}
use Rattle.rounds.specs.Checks.{RuleOf, EventOf, NewOf, most_rounds, Lent, Decided, CheckSays}

module _ (f t : List ℕ) (budget more : ℕ) (larger : budget ≤ more) (low : 1 ≤ budget) (high : more ≤ most_rounds) where
  lent_larger : Lent f t budget → Lent f t more
  lent_larger (room, l, h) = (room, omega (arith, larger, low), high)

  decided_larger : (d : Decision) → (d ≡ used → ⊥) → Decided f t budget d → Decided f t more d
  decided_larger d other (lent, sound, page, decides) =
      (lent_larger lent, sound, page, decides_larger (EventOf f) (NewOf f) d decides other larger)

  pub check_larger : (s : CheckReply) (t' : List ℕ) → (answer s ≡ 5 → ⊥) → CheckSays f t budget s t' → CheckSays f t more s t'
  check_larger (Ok p) t' other (d, rows) = (decided_larger (passed p.rounds) (passed_not_used p.rounds) d, rows)
  check_larger (Err (check.Mismatch r)) t' other (d, h) = (decided_larger (met r 1) (met_not_used r 1) d, h)
  check_larger (Err (check.Invalid r)) t' other (d, h) = (decided_larger (met r 2) (met_not_used r 2) d, h)
  check_larger (Err (check.TooDeep r)) t' other (d, h) = (decided_larger (met r 3) (met_not_used r 3) d, h)
  check_larger (Err (check.Crowded r)) t' other (d, h) = (decided_larger (met r 4) (met_not_used r 4) d, h)
  check_larger (Err (check.OutOfRounds b)) t' other says = absurd (other refl)
  check_larger (Err check.NoPage) t' other (lent, sound, none, h) = (lent_larger lent, sound, none, h)
  check_larger (Err (check.BadFile p)) t' other (lent, e, h) = (lent_larger lent, e, h)
  check_larger (Err check.BadBudget) t' other (room, none, h) = absurd (none (low, omega (arith, larger, high)))
  check_larger (Err check.ShortTable) t' other says = says

-- 257 rounds decide
pub check_decided : (f t : List ℕ) (s : CheckReply) (t' : List ℕ) → CheckSays f t most_rounds s t' → answer s ≡ 5 → ⊥
check_decided f t (Err (check.OutOfRounds b)) t' (e, (lent, sound, page, decides), h) five =
    decided_first (RuleOf f) (binoid_of f) (Valid (schema_of f)) most_tags most_images decides
check_decided f t (Ok p) t' says five = omega (arith, five)
check_decided f t (Err (check.Mismatch r)) t' says five = omega (arith, five)
check_decided f t (Err (check.Invalid r)) t' says five = omega (arith, five)
check_decided f t (Err (check.TooDeep r)) t' says five = omega (arith, five)
check_decided f t (Err (check.Crowded r)) t' says five = omega (arith, five)
check_decided f t (Err check.NoPage) t' says five = omega (arith, five)
check_decided f t (Err (check.BadFile p)) t' says five = omega (arith, five)
check_decided f t (Err check.BadBudget) t' says five = omega (arith, five)
check_decided f t (Err check.ShortTable) t' says five = omega (arith, five)
