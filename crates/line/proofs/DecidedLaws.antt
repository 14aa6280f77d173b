-- What the program says is a decision: over a worktable that is long enough, a line never begins with 5, 8 or 9. With the largest budget 5 does
-- not come (BudgetLaws of rounds), that budget is allowed, and the worktable is as long as it must be. Assumes nothing.
use mathlib.Core.Path.{◌≡◌}
use mathlib.Core.List.{List}
use Prim.Native.Nat.{ℕ, ◌≤◌}
use native.Mathlib.Omega.{arith}
use lib.ListN.{length}
use Rattle.worktable.specs.Packed.{table_long}
use Rattle.std.specs.Prelude.{Ok, Err}
use Rattle.rounds.specs.declared.CheckRefusal.TheVariants as check
use Rattle.rounds.specs.Replies.{CheckReply}
use Rattle.rounds.specs.Checks.{most_rounds, CheckSays}
use Rattle.rounds.specs.Answers.{answer}
use Rattle.rounds.proofs.BudgetLaws.{check_decided}
use Rattle.line.specs.Lines.{Prints}
use Rattle.line.specs.declared.Line.{Line}

module _ (f t : List ℕ) (enough : table_long ≤ length t) where
  answers_few : (r : CheckReply) (t' : List ℕ) → CheckSays f t most_rounds r t' → answer r ≤ 7
  answers_few (Ok passed) t' says = omega arith
  answers_few (Err (check.Mismatch r)) t' says = omega arith
  answers_few (Err (check.Invalid r)) t' says = omega arith
  answers_few (Err (check.TooDeep r)) t' says = omega arith
  answers_few (Err (check.Crowded r)) t' says = omega arith
  answers_few (Err (check.OutOfRounds b)) t' says = omega arith
  answers_few (Err check.NoPage) t' says = omega arith
  answers_few (Err (check.BadFile p)) t' says = omega arith
  answers_few (Err check.BadBudget) t' (_, refused, _) = absurd (refused (omega arith, omega arith))
  answers_few (Err check.ShortTable) t' (short, _) = omega (arith, enough, short)

  pub line_decides : (l : Line) (t' : List ℕ) (p : Prints f t l t') → (answer p.reply ≤ 7) × (answer p.reply ≡ 5 → ⊥)
  line_decides l t' p = (answers_few p.reply t' p.says, check_decided f t p.reply t' p.says)
