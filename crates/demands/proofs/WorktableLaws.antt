-- What a check leaves in the worktable (specs/First.antt): a refusal leaves it as it was; otherwise 5,376 entries, rows or zeros, stand
-- before the table's own rest. Rows and the zeros behind them are 5,376 entries, since a pass has at most 256 rows of 21 entries. The
-- number of entries is a variable where it can be, so that nothing counts to 5,376. Assumes nothing.
use Rattle.std.specs.Prelude.{Ok, Err}
use mathlib.Core.Path.{◌≡◌, sym, ap, ◌∙◌}
use mathlib.Core.List.{List, ◌++◌, append_assoc}
use Prim.Native.Nat.{ℕ, ◌*◌, ◌-◌, ◌≤◌}
use native.Mathlib.Omega.{arith}
use lib.ListN.{length, drop, replicate, length-append, length-drop, length-replicate}
use lib.Seq.{drop_at}
use Rattle.trees.specs.Verdict.{passed}
use Rattle.rows.specs.Tables.{flat}
use Rattle.rows.proofs.TableLaws.{Wide, flat_length}
use Rattle.worktable.specs.Packed.{row_width, most_images, table_long}
use Rattle.rounds.specs.Checks.{Rows, after_pass, zeroed, Decided, CheckSays}
use Rattle.rounds.specs.Answers.{answer, number, images}
use Rattle.rounds.specs.Replies.{CheckReply}
use Rattle.rounds.specs.declared.CheckRefusal.TheVariants as check
use Rattle.demands.specs.First.{Worktable}
use Rattle.demands.proofs.RowCountLaws.{rows_few, rows_are_wide}

-- ---- the front of a table

-- n entries, and the table's own rest behind them
module _ (n : ℕ) (front t : List ℕ) (long : length front ≡ n) (room : n ≤ length t) where
  pub fronted_rest : drop n (front ++ drop n t) ≡ drop n t
  fronted_rest = drop_at front (drop n t) n long

  pub fronted_length : length (front ++ drop n t) ≡ length t
  fronted_length = rw (length-append, length-drop, long) (omega (arith, room))

-- the rows, then zeros up to entry n
rows_then_zeros : (n : ℕ) (rows : List (List ℕ)) → Wide row_width rows → length rows * row_width ≤ n
    → length (flat rows ++ replicate (n - length rows * row_width) 0) ≡ n
rows_then_zeros n rows wide few = rw (length-append, length-replicate, flat_length row_width rows wide) (omega (arith, few))

-- ---- by the reply

module _ (f t u : List ℕ) (a n m : ℕ) where
  refused_worktable : 6 ≤ a → u ≡ t → Worktable f t a n m u
  refused_worktable many e =
      record {
        refused_unchanged = λ h. e;
        ended_zero = λ h k. absurd (omega (arith, many, k));
        passed_rows = λ h. absurd (omega (arith, many, h));
        rest_unchanged = ap (drop table_long) e;
        same_length = ap length e;
      }

  ended_worktable : 1 ≤ a → a ≤ 5 → table_long ≤ length t → u ≡ zeroed t → Worktable f t a n m u
  ended_worktable some few room e =
      let long : length {A = ℕ} (replicate table_long 0) ≡ table_long = length-replicate {A = ℕ} table_long 0 in
      record {
        refused_unchanged = λ h. absurd (omega (arith, few, h));
        ended_zero = λ h k. e;
        passed_rows = λ h. absurd (omega (arith, some, h));
        rest_unchanged = ap (drop table_long) e ∙ fronted_rest table_long (replicate table_long 0) t long room;
        same_length = ap length e ∙ fronted_length table_long (replicate table_long 0) t long room;
      }

module _ (f t u : List ℕ) (budget : ℕ) where
  passed_worktable : (r n : ℕ) → Decided f t budget (passed r) → (rows : List (List ℕ)) → Rows f r rows → n ≡ length rows
      → u ≡ after_pass rows t → Worktable f t 0 r n u
  passed_worktable r n ((room, _, _), _, _, (_, _, _, quiet, _)) rows made count e =
      let few : length rows ≤ most_images = rows_few f r rows made quiet in
      let zeros : List ℕ = replicate (table_long - length rows * row_width) 0 in
      let front = flat rows ++ zeros in
      let long : length front ≡ table_long = rows_then_zeros table_long rows (rows_are_wide f r rows made) (omega (arith, few)) in
      let is : u ≡ front ++ drop table_long t = e ∙ sym (append_assoc (flat rows) zeros (drop table_long t)) in
      record {
        refused_unchanged = λ h. absurd (omega (arith, h));
        ended_zero = λ h k. absurd (omega (arith, h));
        passed_rows = λ _. (rows, made, count, e);
        rest_unchanged = ap (drop table_long) is ∙ fronted_rest table_long front t long room;
        same_length = ap length is ∙ fronted_length table_long front t long room;
      }

  pub worktable : (r : CheckReply) → CheckSays f t budget r u → Worktable f t (answer r) (number r) (images r) u
  worktable (Ok p) (decided, (rows, made, count, e)) = passed_worktable p.rounds p.images decided rows made count e
  worktable (Err (check.Mismatch r)) (((room, _, _), _, _, _), e) = ended_worktable f t u 1 r 0 (omega arith) (omega arith) room e
  worktable (Err (check.Invalid r)) (((room, _, _), _, _, _), e) = ended_worktable f t u 2 r 0 (omega arith) (omega arith) room e
  worktable (Err (check.TooDeep r)) (((room, _, _), _, _, _), e) = ended_worktable f t u 3 r 0 (omega arith) (omega arith) room e
  worktable (Err (check.Crowded r)) (((room, _, _), _, _, _), e) = ended_worktable f t u 4 r 0 (omega arith) (omega arith) room e
  worktable (Err (check.OutOfRounds b)) (_, ((room, _, _), _, _, _), e) = ended_worktable f t u 5 b 0 (omega arith) (omega arith) room e
  worktable (Err check.NoPage) (_, _, _, e) = refused_worktable f t u 6 0 0 (omega arith) e
  worktable (Err (check.BadFile p)) (_, _, e) = refused_worktable f t u 7 p 0 (omega arith) e
  worktable (Err check.BadBudget) (_, _, e) = refused_worktable f t u 8 0 0 (omega arith) e
  worktable (Err check.ShortTable) (_, e) = refused_worktable f t u 9 0 0 (omega arith) e
