-- What the calls from C and Rust promise (Rules, sections 9 and 10): each is the promise of the call that it hands on, its reply laid out as
-- numbers and rows. A row lent for writing that has fewer than 21 entries is refused before all else, with 17 and number 0, and not written.
use Rattle.std.specs.Prelude.{◌≡◌, List, ℕ, ◌≤◌, ◌<◌, ℤ, length}
use Rattle.form.specs.declared.Summary.{Summary}
use Rattle.worktable.specs.Packed.{row_width}
use Rattle.summary.specs.Replies.{FragmentReply}
use Rattle.summary.specs.Replies.{JoinReply}
use Rattle.summary.specs.Replies.{DepthReply}
use Rattle.summary.specs.Fragments.{FragmentSays}
use Rattle.summary.specs.Joins.{JoinSays, DepthSays}
use Rattle.summary.specs.Answers.{fragment_answer, fragment_number, join_answer, join_number, depth_answer, depth_number, net_depth}
use Rattle.page.specs.Pages.{PageReply}
use Rattle.page.specs.Pages.{PageSays}
use Rattle.page.specs.Pages.{answer as page_answer, number as page_number}
use Rattle.rounds.specs.Replies.{CheckReply}
use Rattle.rounds.specs.Checks.{CheckSays}
use Rattle.rounds.specs.Answers.{answer, number, images}
use Rattle.long.specs.Splits.{SplitReply}
use Rattle.long.specs.Splits.{SplitSays, answer as split_answer, number as split_number}
use Rattle.ujthanor.specs.LentRows.{written, StandsFor}

-- the answer a, the number n, the images m, and the worktable afterwards
pub record CheckCalled (f t : List ℕ) (budget a n m : ℕ) (t' : List ℕ) : Type 0 where
  pub reply : CheckReply
  pub says : CheckSays f t budget reply t'
  pub answer_is : a ≡ answer reply
  pub number_is : n ≡ number reply
  pub images_are : m ≡ images reply

pub record PageCalled (f bytes : List ℕ) (a n : ℕ) : Type 0 where
  pub reply : PageReply
  pub says : PageSays f bytes reply
  pub answer_is : a ≡ page_answer reply
  pub number_is : n ≡ page_number reply

-- the answer for a row that is too short to be written
abbrev pub short_row : ℕ
short_row = 17

pub record ShortRow (row : List ℕ) (a n : ℕ) (row' : List ℕ) : Type 0 where
  pub answer_is : a ≡ short_row
  pub number_is : n ≡ 0
  pub unchanged : row' ≡ row

pub record FragmentWritten (f bytes row : List ℕ) (a n : ℕ) (row' : List ℕ) : Type 0 where
  pub reply : FragmentReply
  pub says : FragmentSays f bytes reply
  pub answer_is : a ≡ fragment_answer reply.answer
  pub number_is : n ≡ fragment_number reply.answer
  pub row_is : row' ≡ written row reply.summary

pub record FragmentCalled (f bytes row : List ℕ) (a n : ℕ) (row' : List ℕ) : Type 0 where
  pub short_row : length row < row_width → ShortRow row a n row'
  pub else_written : row_width ≤ length row → FragmentWritten f bytes row a n row'

pub record JoinWritten (f left right row : List ℕ) (a n : ℕ) (row' : List ℕ) : Type 0 where
  pub first : Summary
  pub second : Summary
  pub reply : JoinReply
  pub left_lent : StandsFor left first
  pub right_lent : StandsFor right second
  pub says : JoinSays f first second reply
  pub answer_is : a ≡ join_answer reply.answer
  pub number_is : n ≡ join_number reply.answer
  pub row_is : row' ≡ written row reply.summary

pub record JoinCalled (f left right row : List ℕ) (a n : ℕ) (row' : List ℕ) : Type 0 where
  pub short_row : length row < row_width → ShortRow row a n row'
  pub else_written : row_width ≤ length row → JoinWritten f left right row a n row'

pub record DepthCalled (f row : List ℕ) (a n : ℕ) (z : ℤ) : Type 0 where
  pub lent : Summary
  pub reply : DepthReply
  pub row_lent : StandsFor row lent
  pub says : DepthSays f lent reply
  pub answer_is : a ≡ depth_answer reply
  pub number_is : n ≡ depth_number reply
  pub depth_is : z ≡ net_depth reply

-- the answer a, the number n, and the output afterwards
pub record SplitCalled (f out : List ℕ) (a n : ℕ) (out' : List ℕ) : Type 0 where
  pub reply : SplitReply
  pub says : SplitSays f out reply out'
  pub answer_is : a ≡ split_answer reply
  pub number_is : n ≡ split_number reply
