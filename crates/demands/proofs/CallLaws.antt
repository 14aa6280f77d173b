-- The calls meet the demands (specs/Calls.antt): what each promises is, by the laws of the three demands, what it is to meet. A call from C
-- or Rust has the numbers of the reply that it hands on, and a lent row stands for one struct. Assumes nothing.
use mathlib.Core.Path.{◌≡◌, subst}
use mathlib.Core.List.{List}
use Prim.Native.Nat.{ℕ}
use lib.IntN.{ℤ}
use Rattle.form.specs.declared.Summary.{Summary}
use Rattle.summary.specs.Fragments.{FragmentSays}
use Rattle.summary.specs.Joins.{JoinSays, DepthSays}
use Rattle.summary.specs.Answers.{fragment_answer, fragment_number, join_answer, join_number, depth_answer, depth_number, net_depth}
use Rattle.summary.specs.Replies.{FragmentReply}
use Rattle.summary.specs.Replies.{JoinReply}
use Rattle.summary.specs.Replies.{DepthReply}
use Rattle.page.specs.Pages.{PageSays, answer as page_answer, number as page_number}
use Rattle.page.specs.Pages.{PageReply}
use Rattle.rounds.specs.Checks.{CheckSays}
use Rattle.rounds.specs.Answers.{answer, number, images}
use Rattle.rounds.specs.Replies.{CheckReply}
use Rattle.long.specs.Splits.{SplitSays, answer as split_answer, number as split_number}
use Rattle.long.specs.Splits.{SplitReply}
use Rattle.long.proofs.UniqueLaws.{shortens_unique}
use Rattle.ujthanor.specs.LentRows.{written, StandsFor}
use Rattle.ujthanor.specs.Calls.{CheckCalled, PageCalled, FragmentWritten, FragmentCalled, JoinWritten, JoinCalled, DepthCalled, SplitCalled}
use Rattle.ujthanor.proofs.UniqueLaws.{stands_some, stands_unique}
use Rattle.demands.specs.Calls.{CheckMeets, PageMeets, FragmentMeets, JoinMeets, DepthMeets, SplitMeets}
use Rattle.demands.specs.Calls.{FragmentFromC, JoinFromC, DepthFromC, Demands}
use Rattle.demands.proofs.FirstLaws.{page_order, fragment_order, fragment_refused, join_order, join-refused, depth_order, check_order}
use Rattle.demands.proofs.WorktableLaws.{worktable}
use Rattle.demands.proofs.LentRowLaws.{fragment_row, join_row}
use Rattle.demands.proofs.SecondLaws.{page_judged, fragment_reduced, join_reduced}
use Rattle.demands.proofs.NetDepthLaws.{depth_is, depths_add}
use Rattle.demands.proofs.RelationLaws.{relations_mean}
use Rattle.demands.proofs.ThirdLaws.{checked, larger_budget}
use Rattle.demands.proofs.LongLaws.{split_order, split_written}

-- ---- in Rattle

pub check_meets : (f t : List ℕ) (budget : ℕ) (r : CheckReply) (t' : List ℕ) → CheckSays f t budget r t'
    → CheckMeets f t budget (answer r) (number r) (images r) t'
check_meets f t budget r t' says =
    record {
      first = check_order f t t' budget r says;
      worktable = worktable f t t' budget r says;
      third = checked f t t' budget r says;
    }

pub page_meets : (f bytes : List ℕ) (r : PageReply) → PageSays f bytes r → PageMeets f bytes (page_answer r) (page_number r)
page_meets f bytes r says = record { first = page_order f bytes r says; second = page_judged f bytes r says }

pub fragment_meets : (f bytes : List ℕ) (r : FragmentReply) → FragmentSays f bytes r
    → FragmentMeets f bytes (fragment_answer r.answer) (fragment_number r.answer) r.summary
fragment_meets f bytes r says =
    record {
      first = fragment_order f bytes r says;
      refused_zero = fragment_refused f bytes r says;
      second = fragment_reduced f bytes r says;
    }

pub join_meets : (f : List ℕ) (left right : Summary) (r : JoinReply) → JoinSays f left right r
    → JoinMeets f left right (join_answer r.answer) (join_number r.answer) r.summary
join_meets f left right r says =
    record {
      first = join_order f left right r says;
      refused_zero = join-refused f left right r says;
      second = join_reduced f left right r says;
    }

pub depth_meets : (f : List ℕ) (s : Summary) (r : DepthReply) → DepthSays f s r
    → DepthMeets f s (depth_answer r) (depth_number r) (net_depth r)
depth_meets f s r says = record { first = depth_order f s r says; second = depth_is f s r says }

pub split_meets : (f out : List ℕ) (r : SplitReply) (out' : List ℕ) → SplitSays f out r out'
    → SplitMeets f out (split_answer r) (split_number r) out'
split_meets f out r out' says =
    record { first = split_order f out out' r says; written = split_written f out out' r says }

-- ---- from C and Rust

pub check-from-c : (f t : List ℕ) (budget a n m : ℕ) (t' : List ℕ) → CheckCalled f t budget a n m t' → CheckMeets f t budget a n m t'
check-from-c f t budget a n m t' call =
    rw (call.answer_is, call.number_is, call.images_are) (check_meets f t budget call.reply t' call.says)

pub page-from-c : (f bytes : List ℕ) (a n : ℕ) → PageCalled f bytes a n → PageMeets f bytes a n
page-from-c f bytes a n call = rw (call.answer_is, call.number_is) (page_meets f bytes call.reply call.says)

pub fragment-from-c : (f bytes row : List ℕ) (a n : ℕ) (row' : List ℕ) → FragmentCalled f bytes row a n row'
    → FragmentFromC f bytes row a n row'
fragment-from-c f bytes row a n row' call =
    record { lent = fragment_row f bytes row a n row' call; meets = λ long. wrote (call.else_written long) }
  where
    wrote : FragmentWritten f bytes row a n row' → (s : Summary) × FragmentMeets f bytes a n s × (row' ≡ written row s)
    wrote w = (
      w.reply.summary,
      rw (w.answer_is, w.number_is) (fragment_meets f bytes w.reply w.says),
      w.row_is,
    )

-- the rows stand for l and r, so what was promised of the structs that were read is promised of these
joined_of : (f left right row : List ℕ) (a n : ℕ) (row' : List ℕ) (w : JoinWritten f left right row a n row') (l : Summary)
    → StandsFor left l → (r : Summary) → StandsFor right r → JoinSays f l r w.reply
joined_of f left right row a n row' w l is_left r is_right =
    subst (λ (s : Summary). JoinSays f l s w.reply) (stands_unique right w.second r w.right_lent is_right)
    (subst (λ (s : Summary). JoinSays f s w.second w.reply) (stands_unique left w.first l w.left_lent is_left) w.says)

pub join-from-c : (f left right row : List ℕ) (a n : ℕ) (row' : List ℕ) → JoinCalled f left right row a n row'
    → JoinFromC f left right row a n row'
join-from-c f left right row a n row' call =
    record {
      lent = join_row f left right row a n row' call;
      meets = λ long l is_left r is_right. wrote (call.else_written long) l is_left r is_right;
    }
  where
    wrote : JoinWritten f left right row a n row' → (l : Summary) → StandsFor left l → (r : Summary) → StandsFor right r
        → (s : Summary) × JoinMeets f l r a n s × (row' ≡ written row s)
    wrote w l is_left r is_right = (
      w.reply.summary,
      rw (w.answer_is, w.number_is)
          (join_meets f l r w.reply (joined_of f left right row a n row' w l is_left r is_right)),
      w.row_is,
    )

pub depth_from_c : (f row : List ℕ) (a n : ℕ) (z : ℤ) → DepthCalled f row a n z → DepthFromC f row a n z
depth_from_c f row a n z call s is =
    let says = subst (λ (s : Summary). DepthSays f s call.reply) (stands_unique row call.lent s call.row_lent is) call.says in
    rw (call.answer_is, call.number_is, call.depth_is) (depth_meets f s call.reply says)

pub split-from-c : (f out : List ℕ) (a n : ℕ) (out' : List ℕ) → SplitCalled f out a n out' → SplitMeets f out a n out'
split-from-c f out a n out' call = rw (call.answer_is, call.number_is) (split_meets f out call.reply out' call.says)

-- ---- what is said of no single call

pub demands : Demands
demands =
    record {
      rows_stand = stands_some;
      rows_stand_once = stands_unique;
      relations_mean = relations_mean;
      depths_add = depths_add;
      larger_budget = larger_budget;
      split_once = shortens_unique;
    }
