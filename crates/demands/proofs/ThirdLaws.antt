-- Demand 3 (specs/Third.antt). A pass: every page that can be produced is valid (PassedLaws), spelled by bytes (ProducedLaws) and read as
-- valid (ValidReadLaws), and each row is that of a string's summary (RowMeaningLaws). A mismatch or an invalid page of a round is one of a
-- string of the start (trees/proofs/VerdictLaws.antt). What the rounds answer is exact (ExactLaws), and a larger budget keeps it
-- (rounds/proofs/BudgetLaws.antt). Replies of other numbers are ruled out one by one. Assumes nothing.
use Rattle.std.specs.Prelude.{Ok, Err}
use mathlib.Core.Path.{◌≡◌, refl, subst}
use mathlib.Core.List.{List}
use mathlib.Core.Logic.{◌⊎◌, inl, inr}
use Prim.Native.Nat.{ℕ, ◌≤◌}
use native.Mathlib.Omega.{arith}
use Rattle.hedge.specs.Schema.{Valid}
use Rattle.pieces.specs.Pieces.{most_tags}
use Rattle.template.specs.Order.{IsSound}
use Rattle.schema.specs.Schemas.{schema_of, binoid_of}
use Rattle.schema.proofs.SchemaLaws.{laws_of}
use Rattle.trees.proofs.VerdictLaws.{invalid_broken, mismatch_broken}
use Rattle.worktable.specs.Packed.{most_images}
use Rattle.rounds.specs.Checks.{RuleOf, CheckSays}
use Rattle.rounds.specs.Answers.{answer, number, images}
use Rattle.rounds.specs.Replies.{CheckReply}
use Rattle.rounds.specs.declared.Passed.{Passed}
use Rattle.rounds.specs.declared.CheckRefusal.TheVariants as check
use Rattle.rounds.proofs.BudgetLaws.{check_larger, check_decided}
use Rattle.rounds.proofs.UniqueLaws.{check_unique}
use Rattle.demands.specs.Third.{PassMeans, BrokenMeans, Checked, LargerBudget}
use Rattle.demands.proofs.ProducedLaws.{tree_written}
use Rattle.demands.proofs.PassedLaws.{passed_valid}
use Rattle.demands.proofs.ValidReadLaws.{valid_read}
use Rattle.demands.proofs.ExactLaws.{check_exact, check_moved}
use Rattle.demands.proofs.RowMeaningLaws.{row_means}

-- the reply of a pass is known by its number
passed_is : (r : CheckReply) → answer r ≡ 0 → (p : Passed) × (r ≡ Ok p)
passed_is (Ok p) e = (p, refl)
passed_is (Err (check.Mismatch r)) e = absurd (omega (arith, e))
passed_is (Err (check.Invalid r)) e = absurd (omega (arith, e))
passed_is (Err (check.TooDeep r)) e = absurd (omega (arith, e))
passed_is (Err (check.Crowded r)) e = absurd (omega (arith, e))
passed_is (Err (check.OutOfRounds b)) e = absurd (omega (arith, e))
passed_is (Err check.NoPage) e = absurd (omega (arith, e))
passed_is (Err (check.BadFile p)) e = absurd (omega (arith, e))
passed_is (Err check.BadBudget) e = absurd (omega (arith, e))
passed_is (Err check.ShortTable) e = absurd (omega (arith, e))

module _ (f t t' : List ℕ) (budget : ℕ) where
  -- ---- a pass

  -- the file is sound, and every page is as a pass says
  passed_means : (p : Passed) → CheckSays f t budget (Ok p) t' → IsSound f × PassMeans f
  passed_means p ((_, sound, _, decides), (rows, made, _, _)) = (
    sound,
    λ w produced.
        let valid = passed_valid f sound budget p.rounds decides rows made w produced in
        (valid, tree_written f sound produced.1, valid_read f sound w valid),
  )

  pass_means : (r : CheckReply) → CheckSays f t budget r t' → answer r ≡ 0 → IsSound f × PassMeans f
  pass_means r says e =
      let (p, is) = passed_is r e in passed_means p (subst (λ r. CheckSays f t budget r t') is says)

  -- ---- a break

  mismatch_means : (r : ℕ) → CheckSays f t budget (Err (check.Mismatch r)) t' → BrokenMeans f
  mismatch_means r ((_, sound, _, (_, _, _, event, _)), _) =
      let L = laws_of f sound in
      let (w, n, tree, invalid) = mismatch_broken (RuleOf f) (binoid_of f) (Valid (schema_of f)) most_tags most_images L (λ w v. v.0) event in
      (w, (n, tree), invalid)

  invalid_means : (r : ℕ) → CheckSays f t budget (Err (check.Invalid r)) t' → BrokenMeans f
  invalid_means r ((_, _, _, (_, _, _, event, _)), _) =
      let (w, n, tree, invalid) = invalid_broken (RuleOf f) (binoid_of f) (Valid (schema_of f)) most_tags most_images event in
      (w, (n, tree), invalid)

  broken_means : (r : CheckReply) → CheckSays f t budget r t' → (1 ≤ answer r) × (answer r ≤ 2) → BrokenMeans f
  broken_means (Err (check.Mismatch r)) says h = mismatch_means r says
  broken_means (Err (check.Invalid r)) says h = invalid_means r says
  broken_means (Ok p) says h = absurd (omega (arith, h))
  broken_means (Err (check.TooDeep r)) says h = absurd (omega (arith, h))
  broken_means (Err (check.Crowded r)) says h = absurd (omega (arith, h))
  broken_means (Err (check.OutOfRounds b)) says h = absurd (omega (arith, h))
  broken_means (Err check.NoPage) says h = absurd (omega (arith, h))
  broken_means (Err (check.BadFile p)) says h = absurd (omega (arith, h))
  broken_means (Err check.BadBudget) says h = absurd (omega (arith, h))
  broken_means (Err check.ShortTable) says h = absurd (omega (arith, h))

broken_range : {a : ℕ} → (a ≡ 1) ⊎ (a ≡ 2) → (1 ≤ a) × (a ≤ 2)
broken_range (inl e) = (omega (arith, e), omega (arith, e))
broken_range (inr e) = (omega (arith, e), omega (arith, e))

-- ---- the check

pub checked : (f t t' : List ℕ) (budget : ℕ) (r : CheckReply) → CheckSays f t budget r t'
    → Checked f t budget (answer r) (number r) (images r)
checked f t t' budget r says = record {
  pass_means = λ e. (pass_means f t t' budget r says e).1;
  documents = λ e w page. ((pass_means f t t' budget r says e).1 w page).0.2;
  broken_means = λ e. broken_means f t t' budget r says (broken_range e);
  exact = check_exact f budget t t' r says;
  rows_mean = λ e. row_means f (pass_means f t t' budget r says e).0 (number r);
  decided_at_257 = λ most. check_decided f t r t' (subst (λ b. CheckSays f t b r t') most says);
}

-- under the larger budget the answer is kept, on the other table it is so too, and there it is the only one
pub larger_budget : LargerBudget
larger_budget f t t' u u' budget more r s says other (room, low, _) lent larger decided =
    let kept = check_larger f t budget more larger low lent.2 r t' decided says in
    let (u'', moved) = check_moved f t u more room lent t' r kept in
    (check_unique f u more r s u'' u' moved other).0
