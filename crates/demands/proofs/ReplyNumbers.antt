-- The replies of each call in numbers (proofs/NumberLaws.antt): which reply an answer and its number name, and the promise that determines
-- it. A fragment's or join's answer is promised with some summary; a check's reply with some worktable, a
-- split's with some output. Assumes nothing.
use Rattle.std.specs.Prelude.{Ok, Err}
use mathlib.Core.Path.{◌≡◌, refl, ap}
use mathlib.Core.Bool.{cond}
use mathlib.Core.List.{List, [], ◌∷◌, Memᴰ}
use Prim.Native.Nat.{ℕ, ◌≤◌}
use native.Mathlib.Omega.{arith}
use lib.Dec.{eqb}
use Rattle.form.specs.declared.Summary.{Summary}
use Rattle.summary.specs.Fragments.{FragmentAnswers}
use Rattle.summary.specs.Joins.{JoinAnswers, DepthSays}
use Rattle.summary.specs.Answers.{fragment_answer, fragment_number, join_answer, join_number, depth_answer, depth_number}
use Rattle.summary.specs.Replies.{FragmentAnswer}
use Rattle.summary.specs.declared.FragmentRefusal.TheVariants as fragment
use Rattle.summary.specs.Replies.{FragmentReply}
use Rattle.summary.specs.Replies.{JoinAnswer}
use Rattle.summary.specs.declared.JoinRefusal.TheVariants as joined
use Rattle.summary.specs.Replies.{JoinReply}
use Rattle.summary.specs.Replies.{DepthReply}
use Rattle.summary.specs.declared.DepthRefusal.TheVariants as depth
use Rattle.summary.proofs.UniqueLaws.{fragment_unique, join_unique, depth_unique}
use Rattle.page.specs.Pages.{PageSays, answer as page_answer, number as page_number}
use Rattle.page.specs.Pages.{PageReply}
use Rattle.page.specs.declared.PageRefusal.TheVariants as page
use Rattle.page.proofs.UniqueLaws.{page_unique}
use Rattle.rounds.specs.Checks.{CheckSays}
use Rattle.rounds.specs.Answers.{answer, number, images}
use Rattle.rounds.specs.Replies.{CheckReply}
use Rattle.rounds.specs.declared.CheckRefusal.TheVariants as check
use Rattle.rounds.proofs.UniqueLaws.{check_unique}
use Rattle.long.specs.Splits.{SplitSays, answer as split_answer, number as split_number}
use Rattle.long.specs.Splits.{SplitReply}
use Rattle.long.specs.declared.SplitRefusal.TheVariants as split
use Rattle.long.proofs.UniqueLaws.{split_unique}
use Rattle.demands.proofs.NumberLaws.{Numbered, listed}

-- ---- pages

abbrev pub page_named : PageReply → ℕ → ℕ → PageReply
page_named r a n =
    cond (eqb a 7) (Err (page.BadFile n))
    (cond (eqb a 10) (Err (page.NotATag n))
    (cond (eqb a 11) (Err (page.Mismatch n))
    (cond (eqb a 12) (Err (page.TooDeep n)) (cond (eqb a 13) (Err page.Unmatched) (cond (eqb a 14) (Err page.NotDerived) (Ok tt))))))

pub page-named : (r : PageReply) → r ≡ page_named r (page_answer r) (page_number r)
page-named (Ok tt) = refl
page-named (Err (page.BadFile p)) = refl
page-named (Err (page.NotATag p)) = refl
page-named (Err (page.Mismatch p)) = refl
page-named (Err (page.TooDeep p)) = refl
page-named (Err page.Unmatched) = refl
page-named (Err page.NotDerived) = refl

pub page_numbered : (r : PageReply) → Memᴰ (page_answer r) (0 ∷ 7 ∷ 10 ∷ 11 ∷ 12 ∷ 13 ∷ 14 ∷ [])
page_numbered (Ok tt) = listed _ 0 (omega arith)
page_numbered (Err (page.BadFile p)) = listed _ 1 (omega arith)
page_numbered (Err (page.NotATag p)) = listed _ 2 (omega arith)
page_numbered (Err (page.Mismatch p)) = listed _ 3 (omega arith)
page_numbered (Err (page.TooDeep p)) = listed _ 4 (omega arith)
page_numbered (Err page.Unmatched) = listed _ 5 (omega arith)
page_numbered (Err page.NotDerived) = listed _ 6 (omega arith)

abbrev pub page_replies : List ℕ → List ℕ → Numbered PageReply
page_replies f bytes =
    record {
      answer = page_answer;
      number = page_number;
      reply = page_named;
      named = page-named;
      Says = λ r. PageSays f bytes r;
      unique = page_unique f bytes;
    }

-- ---- fragments

abbrev pub fragment_named : FragmentAnswer → ℕ → ℕ → FragmentAnswer
fragment_named r a n =
    cond (eqb a 7) (Err (fragment.BadFile n))
    (cond (eqb a 10) (Err (fragment.NotATag n))
    (cond (eqb a 11) (Err (fragment.Mismatch n)) (cond (eqb a 12) (Err (fragment.TooDeep n)) (Ok tt))))

pub fragment-named : (r : FragmentAnswer) → r ≡ fragment_named r (fragment_answer r) (fragment_number r)
fragment-named (Ok tt) = refl
fragment-named (Err (fragment.BadFile p)) = refl
fragment-named (Err (fragment.NotATag p)) = refl
fragment-named (Err (fragment.Mismatch p)) = refl
fragment-named (Err (fragment.TooDeep p)) = refl

pub fragment_numbered : (r : FragmentAnswer) → Memᴰ (fragment_answer r) (0 ∷ 7 ∷ 10 ∷ 11 ∷ 12 ∷ [])
fragment_numbered (Ok tt) = listed _ 0 (omega arith)
fragment_numbered (Err (fragment.BadFile p)) = listed _ 1 (omega arith)
fragment_numbered (Err (fragment.NotATag p)) = listed _ 2 (omega arith)
fragment_numbered (Err (fragment.Mismatch p)) = listed _ 3 (omega arith)
fragment_numbered (Err (fragment.TooDeep p)) = listed _ 4 (omega arith)

module _ (f bytes : List ℕ) where
  abbrev pub FragmentMade : FragmentAnswer → Type 0
  FragmentMade a = (s : Summary) × FragmentAnswers f bytes a s

  pub fragment_one : (a b : FragmentAnswer) → FragmentMade a → FragmentMade b → a ≡ b
  fragment_one a b (s, p) (t, q) =
      ap (λ (r : FragmentReply). r.answer)
      (fragment_unique f bytes (record { answer = a; summary = s }) (record { answer = b; summary = t }) p q)

  abbrev pub fragment_replies : Numbered FragmentAnswer
  fragment_replies =
      record {
        answer = fragment_answer;
        number = fragment_number;
        reply = fragment_named;
        named = fragment-named;
        Says = FragmentMade;
        unique = fragment_one;
      }

-- ---- joins

abbrev pub join_named : JoinAnswer → ℕ → ℕ → JoinAnswer
join_named r a n =
    cond (eqb a 7) (Err (joined.BadFile n))
    (cond (eqb a 11) (Err joined.Mismatch) (cond (eqb a 12) (Err joined.TooDeep) (cond (eqb a 15) (Err joined.NoSummary) (Ok tt))))

pub join-named : (r : JoinAnswer) → r ≡ join_named r (join_answer r) (join_number r)
join-named (Ok tt) = refl
join-named (Err (joined.BadFile p)) = refl
join-named (Err joined.NoSummary) = refl
join-named (Err joined.Mismatch) = refl
join-named (Err joined.TooDeep) = refl

pub join_numbered : (r : JoinAnswer) → Memᴰ (join_answer r) (0 ∷ 7 ∷ 11 ∷ 12 ∷ 15 ∷ [])
join_numbered (Ok tt) = listed _ 0 (omega arith)
join_numbered (Err (joined.BadFile p)) = listed _ 1 (omega arith)
join_numbered (Err joined.NoSummary) = listed _ 4 (omega arith)
join_numbered (Err joined.Mismatch) = listed _ 2 (omega arith)
join_numbered (Err joined.TooDeep) = listed _ 3 (omega arith)

pub join_numberless : (r : JoinAnswer) → (join_answer r ≡ 7 → ⊥) → join_number r ≡ 0
join_numberless (Ok tt) h = refl
join_numberless (Err (joined.BadFile p)) h = absurd (h refl)
join_numberless (Err joined.NoSummary) h = refl
join_numberless (Err joined.Mismatch) h = refl
join_numberless (Err joined.TooDeep) h = refl

module _ (f : List ℕ) (left right : Summary) where
  abbrev pub JoinMade : JoinAnswer → Type 0
  JoinMade a = (s : Summary) × JoinAnswers f left right a s

  pub join_one : (a b : JoinAnswer) → JoinMade a → JoinMade b → a ≡ b
  join_one a b (s, p) (t, q) =
      ap (λ (r : JoinReply). r.answer)
      (join_unique f left right (record { answer = a; summary = s }) (record { answer = b; summary = t }) p q)

  abbrev pub join_replies : Numbered JoinAnswer
  join_replies =
      record {
        answer = join_answer;
        number = join_number;
        reply = join_named;
        named = join-named;
        Says = JoinMade;
        unique = join_one;
      }

-- ---- net depths

abbrev pub depth_named : DepthReply → ℕ → ℕ → DepthReply
depth_named r a n = cond (eqb a 7) (Err (depth.BadFile n)) (cond (eqb a 15) (Err depth.NoSummary) r)

pub depth-named : (r : DepthReply) → r ≡ depth_named r (depth_answer r) (depth_number r)
depth-named (Ok z) = refl
depth-named (Err (depth.BadFile p)) = refl
depth-named (Err depth.NoSummary) = refl

pub depth_numbered : (r : DepthReply) → Memᴰ (depth_answer r) (0 ∷ 7 ∷ 15 ∷ [])
depth_numbered (Ok z) = listed _ 0 (omega arith)
depth_numbered (Err (depth.BadFile p)) = listed _ 1 (omega arith)
depth_numbered (Err depth.NoSummary) = listed _ 2 (omega arith)

pub depth_numberless : (r : DepthReply) → (depth_answer r ≡ 7 → ⊥) → depth_number r ≡ 0
depth_numberless (Ok z) h = refl
depth_numberless (Err (depth.BadFile p)) h = absurd (h refl)
depth_numberless (Err depth.NoSummary) h = refl

abbrev pub depth_replies : List ℕ → Summary → Numbered DepthReply
depth_replies f s =
    record {
      answer = depth_answer;
      number = depth_number;
      reply = depth_named;
      named = depth-named;
      Says = λ r. DepthSays f s r;
      unique = depth_unique f s;
    }

-- ---- checks

abbrev pub check_named : CheckReply → ℕ → ℕ → CheckReply
check_named r a n =
    cond (eqb a 6) (Err check.NoPage)
    (cond (eqb a 7) (Err (check.BadFile n)) (cond (eqb a 8) (Err check.BadBudget) (cond (eqb a 9) (Err check.ShortTable) r)))

pub check-named : (r : CheckReply) → r ≡ check_named r (answer r) (number r)
check-named (Ok p) = refl
check-named (Err (check.Mismatch r)) = refl
check-named (Err (check.Invalid r)) = refl
check-named (Err (check.TooDeep r)) = refl
check-named (Err (check.Crowded r)) = refl
check-named (Err (check.OutOfRounds b)) = refl
check-named (Err check.NoPage) = refl
check-named (Err (check.BadFile p)) = refl
check-named (Err check.BadBudget) = refl
check-named (Err check.ShortTable) = refl

-- at most 9; and images with 0 alone
pub check_numbered : (r : CheckReply) → (answer r ≤ 9) × (1 ≤ answer r → images r ≡ 0)
check_numbered (Ok p) = (omega arith, λ h. absurd (omega (arith, h)))
check_numbered (Err (check.Mismatch r)) = (omega arith, λ h. refl)
check_numbered (Err (check.Invalid r)) = (omega arith, λ h. refl)
check_numbered (Err (check.TooDeep r)) = (omega arith, λ h. refl)
check_numbered (Err (check.Crowded r)) = (omega arith, λ h. refl)
check_numbered (Err (check.OutOfRounds b)) = (omega arith, λ h. refl)
check_numbered (Err check.NoPage) = (omega arith, λ h. refl)
check_numbered (Err (check.BadFile p)) = (omega arith, λ h. refl)
check_numbered (Err check.BadBudget) = (omega arith, λ h. refl)
check_numbered (Err check.ShortTable) = (omega arith, λ h. refl)

module _ (f t : List ℕ) (budget : ℕ) where
  abbrev pub CheckMade : CheckReply → Type 0
  CheckMade r = (t' : List ℕ) × CheckSays f t budget r t'

  pub check_one : (r q : CheckReply) → CheckMade r → CheckMade q → r ≡ q
  check_one r q (t', p) (t'', s) = (check_unique f t budget r q t' t'' p s).0

  abbrev pub check_replies : Numbered CheckReply
  check_replies =
      record { answer = answer; number = number; reply = check_named; named = check-named; Says = CheckMade; unique = check_one }

-- ---- splits

abbrev pub split_named : SplitReply → ℕ → ℕ → SplitReply
split_named r a n =
    cond (eqb a 7) (Err (split.BadFile n)) (cond (eqb a 16) (Err split.TooMany) (cond (eqb a 17) (Err split.Short) (Ok n)))

pub split-named : (r : SplitReply) → r ≡ split_named r (split_answer r) (split_number r)
split-named (Ok n) = refl
split-named (Err (split.BadFile p)) = refl
split-named (Err split.TooMany) = refl
split-named (Err split.Short) = refl

pub split_numbered : (r : SplitReply) → Memᴰ (split_answer r) (0 ∷ 7 ∷ 16 ∷ 17 ∷ [])
split_numbered (Ok n) = listed _ 0 (omega arith)
split_numbered (Err (split.BadFile p)) = listed _ 1 (omega arith)
split_numbered (Err split.TooMany) = listed _ 2 (omega arith)
split_numbered (Err split.Short) = listed _ 3 (omega arith)

module _ (f out : List ℕ) where
  abbrev pub SplitMade : SplitReply → Type 0
  SplitMade r = (out' : List ℕ) × SplitSays f out r out'

  pub split_one : (r q : SplitReply) → SplitMade r → SplitMade q → r ≡ q
  split_one r q (out', p) (out'', s) = (split_unique f out out' out'' r q p s).0

  abbrev pub split_replies : Numbered SplitReply
  split_replies =
      record {
        answer = split_answer;
        number = split_number;
        reply = split_named;
        named = split-named;
        Says = SplitMade;
        unique = split_one;
      }
