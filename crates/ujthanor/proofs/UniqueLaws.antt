-- The promises of the calls determine every number and every lent entry. Each is a reply that its own promise determines, laid out by
-- functions; a lent row is a summary's row or it is not, and stands for one struct either way. Assumes nothing.
use mathlib.Core.Path.{◌≡◌, refl, sym, ap, ◌∙◌, subst}
use mathlib.Core.List.{List}
use Prim.Native.Nat.{ℕ, ◌≤◌, ◌<◌}
use native.Mathlib.Decide.{ℕ_discrete, dec_lt}
use native.Mathlib.Omega.{arith}
use lib.IntN.{ℤ}
use lib.ListN.{length}
use Rattle.form.specs.declared.Summary.{Summary}
use Rattle.worktable.specs.Packed.{row_width, nonterminal_in, above_in, summary_in}
use Rattle.summary.specs.Replies.{FragmentReply}
use Rattle.summary.specs.Replies.{JoinReply}
use Rattle.summary.specs.Replies.{DepthReply}
use Rattle.summary.specs.Joins.{JoinSays, DepthSays}
use Rattle.summary.specs.Answers.{fragment_answer, fragment_number, join_answer, join_number, depth_answer, depth_number, net_depth}
use Rattle.summary.proofs.UniqueLaws.{fragment_unique, join_unique, depth_unique}
use Rattle.page.specs.Pages.{PageReply}
use Rattle.page.specs.Pages.{answer as page_answer, number as page_number}
use Rattle.page.proofs.UniqueLaws.{page_unique}
use Rattle.rounds.specs.Replies.{CheckReply}
use Rattle.rounds.specs.Answers.{answer, number, images}
use Rattle.rounds.proofs.UniqueLaws.{check_unique}
use Rattle.long.specs.Splits.{SplitReply}
use Rattle.long.specs.Splits.{answer as split_answer, number as split_number}
use Rattle.long.proofs.UniqueLaws.{split_unique}
use Rattle.ujthanor.specs.LentRows.{written, IsRow, no_summary, StandsFor}
use Rattle.ujthanor.specs.Calls.{CheckCalled, PageCalled, ShortRow, FragmentWritten, FragmentCalled, JoinWritten, JoinCalled, DepthCalled}
use Rattle.ujthanor.specs.Calls.{SplitCalled}

-- what is laid out by a function from replies that are one is one
laid : {A B : Type 0} {r s : A} {x y : B} (lay : A → B) → r ≡ s → x ≡ lay r → y ≡ lay s → x ≡ y
laid lay e p q = p ∙ ap lay e ∙ sym q

-- ---- what a lent row stands for

is_row : (row : List ℕ) → Dec (IsRow row)
is_row row = all (ℕ_discrete (length row) row_width) (ℕ_discrete (nonterminal_in row) 0) (ℕ_discrete (above_in row) 0)
  where
    all : Dec (length row ≡ row_width) → Dec (nonterminal_in row ≡ 0) → Dec (above_in row ≡ 0) → Dec (IsRow row)
    all (yes l) (yes z) (yes a) = yes (l, z, a)
    all (yes l) (yes z) (no a) = no (λ (_, _, e). a e)
    all (yes l) (no z) d = no (λ (_, e, _). z e)
    all (no l) d c = no (λ (e, _, _). l e)

pub stands_unique : (row : List ℕ) (s s' : Summary) → StandsFor row s → StandsFor row s' → s ≡ s'
stands_unique row s s' a b = by (is_row row)
  where
    by : Dec (IsRow row) → s ≡ s'
    by (yes r) = a.row_shows r ∙ sym (b.row_shows r)
    by (no n) = a.else_none n ∙ sym (b.else_none n)

pub stands_some : (row : List ℕ) → (s : Summary) × StandsFor row s
stands_some row = by (is_row row)
  where
    by : Dec (IsRow row) → (s : Summary) × StandsFor row s
    by (yes r) = (summary_in row, record { row_shows = λ _. refl; else_none = λ n. absurd (n r) })
    by (no n) = (no_summary, record { row_shows = λ r. absurd (n r); else_none = λ _. refl })

-- ---- the calls

pub check_called_unique : (f t : List ℕ) (budget a n m a' n' m' : ℕ) (t' t'' : List ℕ) → CheckCalled f t budget a n m t'
    → CheckCalled f t budget a' n' m' t'' → (a ≡ a') × (n ≡ n') × (m ≡ m') × (t' ≡ t'')
check_called_unique f t budget a n m a' n' m' t' t'' p q =
    let (e, d) = check_unique f t budget p.reply q.reply t' t'' p.says q.says in (
      laid (λ (r : CheckReply). answer r) e p.answer_is q.answer_is,
      laid (λ (r : CheckReply). number r) e p.number_is q.number_is,
      laid (λ (r : CheckReply). images r) e p.images_are q.images_are,
      d,
    )

pub page_called_unique : (f bytes : List ℕ) (a n a' n' : ℕ) → PageCalled f bytes a n → PageCalled f bytes a' n' → (a ≡ a') × (n ≡ n')
page_called_unique f bytes a n a' n' p q =
    let e = page_unique f bytes p.reply q.reply p.says q.says in (
      laid (λ (r : PageReply). page_answer r) e p.answer_is q.answer_is,
      laid (λ (r : PageReply). page_number r) e p.number_is q.number_is,
    )

-- two outcomes of a call that writes a row: short or written, both are one
module _ (row : List ℕ) (a n a' n' : ℕ) (row' row'' : List ℕ) where
  abbrev Same : Type 0
  Same = (a ≡ a') × (n ≡ n') × (row' ≡ row'')

  short_same : ShortRow row a n row' → ShortRow row a' n' row'' → Same
  short_same p q =
      (p.answer_is ∙ sym q.answer_is, p.number_is ∙ sym q.number_is, p.unchanged ∙ sym q.unchanged)

  short_or_long : (length row < row_width → Same) → (row_width ≤ length row → Same) → Same
  short_or_long short long = by (dec_lt (length row) row_width)
    where
      by : Dec (length row < row_width) → Same
      by (yes l) = short l
      by (no l) = long (omega (arith, l))

module _ (f bytes row : List ℕ) (a n a' n' : ℕ) (row' row'' : List ℕ) where
  pub fragment_called_unique : FragmentCalled f bytes row a n row' → FragmentCalled f bytes row a' n' row''
      → (a ≡ a') × (n ≡ n') × (row' ≡ row'')
  fragment_called_unique p q =
      short_or_long row a n a' n' row' row''
      (λ l. short_same row a n a' n' row' row'' (p.short_row l) (q.short_row l))
      (λ l. both (p.else_written l) (q.else_written l))
    where
      both : FragmentWritten f bytes row a n row' → FragmentWritten f bytes row a' n' row'' → (a ≡ a') × (n ≡ n') × (row' ≡ row'')
      both p q =
          let e = fragment_unique f bytes p.reply q.reply p.says q.says in (
            laid (λ (r : FragmentReply). fragment_answer r.answer) e p.answer_is q.answer_is,
            laid (λ (r : FragmentReply). fragment_number r.answer) e p.number_is q.number_is,
            laid (λ (r : FragmentReply). written row r.summary) e p.row_is q.row_is,
          )

module _ (f left right row : List ℕ) (a n a' n' : ℕ) (row' row'' : List ℕ) where
  pub join_called_unique : JoinCalled f left right row a n row' → JoinCalled f left right row a' n' row''
      → (a ≡ a') × (n ≡ n') × (row' ≡ row'')
  join_called_unique p q =
      short_or_long row a n a' n' row' row''
      (λ l. short_same row a n a' n' row' row'' (p.short_row l) (q.short_row l))
      (λ l. both (p.else_written l) (q.else_written l))
    where
      both : JoinWritten f left right row a n row' → JoinWritten f left right row a' n' row''
          → (a ≡ a') × (n ≡ n') × (row' ≡ row'')
      both p q =
          let l = stands_unique left q.first p.first q.left_lent p.left_lent in
          let r = stands_unique right q.second p.second q.right_lent p.right_lent in
          let says = subst (λ (s : Summary). JoinSays f p.first s q.reply) r
          (subst (λ (s : Summary). JoinSays f s q.second q.reply) l q.says) in
          let e = join_unique f p.first p.second p.reply q.reply p.says says in (
            laid (λ (r : JoinReply). join_answer r.answer) e p.answer_is q.answer_is,
            laid (λ (r : JoinReply). join_number r.answer) e p.number_is q.number_is,
            laid (λ (r : JoinReply). written row r.summary) e p.row_is q.row_is,
          )

pub depth_called_unique : (f row : List ℕ) (a n a' n' : ℕ) (z z' : ℤ) → DepthCalled f row a n z → DepthCalled f row a' n' z'
    → (a ≡ a') × (n ≡ n') × (z ≡ z')
depth_called_unique f row a n a' n' z z' p q =
    let l = stands_unique row q.lent p.lent q.row_lent p.row_lent in
    let says = subst (λ (s : Summary). DepthSays f s q.reply) l q.says in
    let e = depth_unique f p.lent p.reply q.reply p.says says in (
      laid (λ (r : DepthReply). depth_answer r) e p.answer_is q.answer_is,
      laid (λ (r : DepthReply). depth_number r) e p.number_is q.number_is,
      laid (λ (r : DepthReply). net_depth r) e p.depth_is q.depth_is,
    )

pub split_called_unique : (f out : List ℕ) (a n a' n' : ℕ) (out' out'' : List ℕ) → SplitCalled f out a n out'
    → SplitCalled f out a' n' out'' → (a ≡ a') × (n ≡ n') × (out' ≡ out'')
split_called_unique f out a n a' n' out' out'' p q =
    let (e, d) = split_unique f out out' out'' p.reply q.reply p.says q.says in (
      laid (λ (r : SplitReply). split_answer r) e p.answer_is q.answer_is,
      laid (λ (r : SplitReply). split_number r) e p.number_is q.number_is,
      d,
    )
