-- Demand 1 (specs/First.antt) from the promises: an answer is given exactly where the reply that it names is promised
-- (proofs/NumberLaws.antt, proofs/ReplyNumbers.antt), so each field is that promise in the demand's words. What a check leaves is in
-- WorktableLaws, what a call leaves in a lent row in LentRowLaws. Assumes nothing.
use Rattle.std.specs.Prelude.{Ok, Err}
use mathlib.Core.Path.{◌≡◌, refl}
use mathlib.Core.List.{List}
use mathlib.Core.Logic.{◌↔◌, ⊎_elim}
use Prim.Native.Nat.{ℕ, ◌≤◌}
use native.Mathlib.Omega.{arith}
use lib.IntN.{pos}
use Rattle.entries.specs.Entries.{rule_symbols}
use Rattle.template.specs.Order.{reading}
use Rattle.template.specs.Order.{faulty}
use Rattle.form.specs.declared.Summary.{Summary}
use Rattle.summary.specs.Packing.{zeros}
use Rattle.summary.specs.Fragments.{FragmentAnswers, FragmentSays}
use Rattle.summary.specs.Joins.{JoinAnswers, JoinSays, DepthSays}
use Rattle.summary.specs.Answers.{fragment_answer, fragment_number, join_answer, join_number, depth_answer, depth_number, net_depth}
use Rattle.summary.specs.Replies.{FragmentAnswer}
use Rattle.summary.specs.Replies.{FragmentReply}
use Rattle.summary.specs.Replies.{JoinAnswer}
use Rattle.summary.specs.Replies.{JoinReply}
use Rattle.summary.specs.Replies.{DepthReply}
use Rattle.summary.specs.declared.DepthRefusal.TheVariants as depth
use Rattle.page.specs.Pages.{PageSays, answer as page_answer, number as page_number}
use Rattle.page.specs.Pages.{PageReply}
use Rattle.rounds.specs.Checks.{Lent, CheckSays}
use Rattle.rounds.specs.Answers.{answer, number, images}
use Rattle.rounds.specs.Replies.{CheckReply}
use Rattle.ujthanor.proofs.CallLaws.{fragment_made, join_made}
use Rattle.demands.specs.First.{CheckOrder, PageOrder, FragmentOrder, JoinOrder, DepthOrder}
use Rattle.demands.proofs.Sides.{in_words}
use Rattle.demands.proofs.NumberLaws.{placed, bare, numberless, bad_exactly, bad_place, file_first}
use Rattle.demands.proofs.ReplyNumbers.{page_replies, page_numbered, fragment_replies, fragment_numbered, depth_replies, depth_numbered}
use Rattle.demands.proofs.ReplyNumbers.{join_replies, join_numbered, join_numberless, depth_numberless, check_replies, check_numbered}

-- ---- pages

module _ (f bytes : List ℕ) (r : PageReply) (says : PageSays f bytes r) where
  pub page_order : PageOrder f bytes (page_answer r) (page_number r)
  page_order =
      let all = page_replies f bytes in
      record {
        numbered = page_numbered r;
        read_order =
            record {
              file_first = file_first f (page_answer r) (page_number r) (λ p. placed all r says 7 p refl refl);
              not_a_tag = λ p. placed all r says 10 p refl refl;
              mismatched = λ p. placed all r says 11 p refl refl;
              too_deep = λ p. placed all r says 12 p refl refl;
            };
        unmatched = bare all r says 13 refl (λ n. refl);
        not_derived = bare all r says 14 refl (λ n. refl);
        no_number =
            ⊎_elim (numberless all r says 0 (λ n. refl))
            (⊎_elim (numberless all r says 13 (λ n. refl)) (numberless all r says 14 (λ n. refl)));
      }

-- ---- fragments and joins: a refusal comes with a summary of zeros

with_zeros : {A B C : Type 0} → A ↔ ((s : Summary) × (B × C × (s ≡ zeros))) → A ↔ (B × C)
with_zeros h = in_words h (λ (s, (b, c, e)). (b, c)) (λ (b, c). (zeros, (b, c, refl)))

bad_with_zeros : {A B : Type 0} → A ↔ ((s : Summary) × (B × (s ≡ zeros))) → A ↔ B
bad_with_zeros h = in_words h (λ (s, (b, e)). b) (λ b. (zeros, (b, refl)))

module _ (f bytes : List ℕ) (a : FragmentAnswer) (s : Summary) (says : FragmentAnswers f bytes a s) where
  answered_order : FragmentOrder f bytes (fragment_answer a) (fragment_number a)
  answered_order =
      let all = fragment_replies f bytes in
      record {
        numbered = fragment_numbered a;
        read_order =
            record {
              file_first =
                  file_first f (fragment_answer a) (fragment_number a) (λ p. bad_with_zeros (placed all a (s, says) 7 p refl refl));
              not_a_tag = λ p. with_zeros (placed all a (s, says) 10 p refl refl);
              mismatched = λ p. with_zeros (placed all a (s, says) 11 p refl refl);
              too_deep = λ p. with_zeros (placed all a (s, says) 12 p refl refl);
            };
        no_number = numberless all a (s, says) 0 (λ n. refl);
      }

module _ (f bytes : List ℕ) (r : FragmentReply) (says : FragmentSays f bytes r) where
  pub fragment_order : FragmentOrder f bytes (fragment_answer r.answer) (fragment_number r.answer)
  fragment_order = answered_order f bytes r.answer r.summary says

  pub fragment_refused : 1 ≤ fragment_answer r.answer → r.summary ≡ zeros
  fragment_refused h = (fragment_made f bytes r says).zero h

module _ (f : List ℕ) (left right : Summary) (a : JoinAnswer) (s : Summary) (says : JoinAnswers f left right a s) where
  joined_order : JoinOrder f left right (join_answer a) (join_number a)
  joined_order =
      let all = join_replies f left right in
      record {
        numbered = join_numbered a;
        file_first = file_first f (join_answer a) (join_number a) (λ p. bad_with_zeros (placed all a (s, says) 7 p refl refl));
        no_summary =
            in_words (with_zeros (bare all a (s, says) 15 refl (λ n. refl)))
            (λ (sound, none). (sound, λ (l, r). none l r)) (λ (sound, none). (sound, λ l r. none (l, r)));
        mismatched = with_zeros (bare all a (s, says) 11 refl (λ n. refl));
        too_deep = with_zeros (bare all a (s, says) 12 refl (λ n. refl));
        no_number = join_numberless a;
      }

module _ (f : List ℕ) (left right : Summary) (r : JoinReply) (says : JoinSays f left right r) where
  pub join_order : JoinOrder f left right (join_answer r.answer) (join_number r.answer)
  join_order = joined_order f left right r.answer r.summary says

  pub join-refused : 1 ≤ join_answer r.answer → r.summary ≡ zeros
  join-refused h = (join_made f left right r says).zero h

-- ---- net depths

depthless : (r : DepthReply) → 1 ≤ depth_answer r → net_depth r ≡ pos 0
depthless (Ok z) h = absurd (omega (arith, h))
depthless (Err (depth.BadFile p)) h = refl
depthless (Err depth.NoSummary) h = refl

module _ (f : List ℕ) (s : Summary) (r : DepthReply) (says : DepthSays f s r) where
  pub depth_order : DepthOrder f s (depth_answer r) (depth_number r) (net_depth r)
  depth_order =
      let all = depth_replies f s in
      record {
        numbered = depth_numbered r;
        file_first = file_first f (depth_answer r) (depth_number r) (λ p. placed all r says 7 p refl refl);
        no_summary = bare all r says 15 refl (λ n. refl);
        no_number = depth_numberless r;
        no_depth = depthless r;
      }

-- ---- checks: a refusal leaves the worktable as it was

module _ (f t t' : List ℕ) (budget : ℕ) (r : CheckReply) (says : CheckSays f t budget r t') where
  check_bad : (p : ℕ) → ((answer r ≡ 7) × (number r ≡ p)) ↔ (Lent f t budget × (reading f ≡ faulty p))
  check_bad p =
      in_words (placed (check_replies f t budget) r (t', says) 7 p refl refl)
      (λ (u, (lent, bad, e)). (lent, bad)) (λ (lent, bad). (t, (lent, bad, refl)))

  pub check_order : CheckOrder f t budget (answer r) (number r) (images r)
  check_order =
      let all = check_replies f t budget in
      record {
        numbered = (check_numbered r).0;
        short_first = in_words (bare all r (t', says) 9 refl (λ n. refl)) (λ (u, (short, e)). short) (λ short. (t, (short, refl)));
        then_budget =
            in_words (bare all r (t', says) 8 refl (λ n. refl))
            (λ (u, (room, none, e)). (room, none)) (λ (room, none). (t, (room, none, refl)));
        then_file = bad_exactly rule_symbols f (Lent f t budget) (answer r) (number r) check_bad;
        then_page =
            in_words (bare all r (t', says) 6 refl (λ n. refl))
            (λ (u, (lent, sound, none, e)). (lent, sound, none)) (λ (lent, sound, none). (t, (lent, sound, none, refl)));
        file_place = bad_place rule_symbols f (Lent f t budget) (answer r) (number r) check_bad;
        no_number =
            ⊎_elim (numberless all r (t', says) 6 (λ n. refl))
            (⊎_elim (numberless all r (t', says) 8 (λ n. refl)) (numberless all r (t', says) 9 (λ n. refl)));
        no_images = (check_numbered r).1;
      }
