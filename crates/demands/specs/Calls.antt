-- The calls themselves: what each public call, in Rattle and from C or Rust, meets of the three demands. The contract of each function of
-- src/lib.rt is one of these, and its body is the call. A call from C or Rust has the answers of the call that it hands on. One that writes a
-- summary has one more: 17, for a row that is too short (specs/First.antt, `LentRow`); then nothing was read, and no demand but that one speaks.
use Rattle.std.specs.Prelude.{◌≡◌, List, ℕ, ◌≤◌, ℤ, ◌+ℤ◌, length}
use Rattle.form.specs.declared.Summary.{Summary}
use Rattle.summary.specs.Packing.{zeros}
use Rattle.summary.specs.Joins.{JoinSays, DepthSays}
use Rattle.summary.specs.Answers.{join_answer, net_depth}
use Rattle.summary.specs.Replies.{JoinReply}
use Rattle.summary.specs.Replies.{DepthReply}
use Rattle.worktable.specs.Packed.{row_width}
use Rattle.long.specs.Splits.{Shortens}
use Rattle.ujthanor.specs.LentRows.{written, StandsFor}
use Rattle.demands.specs.First.{CheckOrder, Worktable, PageOrder, FragmentOrder, JoinOrder, DepthOrder, LentRow}
use Rattle.demands.specs.Second.{PageJudged, FragmentReduced, RelationsMean, JoinReduced, Depth}
use Rattle.demands.specs.Third.{Checked, LargerBudget}
use Rattle.demands.specs.Long.{SplitOrder, SplitWritten}

-- ---- each call

pub record CheckMeets (f t : List ℕ) (budget a n m : ℕ) (t' : List ℕ) : Type 0 where
  pub first : CheckOrder f t budget a n m
  pub worktable : Worktable f t a n m t'
  pub third : Checked f t budget a n m

pub record PageMeets (f bytes : List ℕ) (a n : ℕ) : Type 0 where
  pub first : PageOrder f bytes a n
  pub second : PageJudged f bytes a

pub record FragmentMeets (f bytes : List ℕ) (a n : ℕ) (s : Summary) : Type 0 where
  pub first : FragmentOrder f bytes a n
  pub refused_zero : 1 ≤ a → s ≡ zeros
  pub second : FragmentReduced f bytes a s

pub record JoinMeets (f : List ℕ) (left right : Summary) (a n : ℕ) (s : Summary) : Type 0 where
  pub first : JoinOrder f left right a n
  pub refused_zero : 1 ≤ a → s ≡ zeros
  pub second : JoinReduced f left right a s

pub record DepthMeets (f : List ℕ) (s : Summary) (a n : ℕ) (z : ℤ) : Type 0 where
  pub first : DepthOrder f s a n z
  pub second : Depth f s a z

pub record SplitMeets (f out : List ℕ) (a n : ℕ) (out' : List ℕ) : Type 0 where
  pub first : SplitOrder f out a n out'
  pub written : a ≡ 0 → SplitWritten f n out'

-- ---- from C and Rust: a summary is a lent row

pub record FragmentFromC (f bytes row : List ℕ) (a n : ℕ) (row' : List ℕ) : Type 0 where
  pub lent : LentRow row a n row'
  pub meets : row_width ≤ length row → (s : Summary) × FragmentMeets f bytes a n s × (row' ≡ written row s)

pub record JoinFromC (f left right row : List ℕ) (a n : ℕ) (row' : List ℕ) : Type 0 where
  pub lent : LentRow row a n row'
  pub meets : row_width ≤ length row → (l : Summary) → StandsFor left l → (r : Summary) → StandsFor right r
      → (s : Summary) × JoinMeets f l r a n s × (row' ≡ written row s)

abbrev pub DepthFromC : List ℕ → List ℕ → ℕ → ℕ → ℤ → Type 0
DepthFromC f row a n z = (s : Summary) → StandsFor row s → DepthMeets f s a n z

-- ---- what is said of no single call

pub record Demands : Type 0 where
  -- what a call from C or Rust says of the struct that a lent row stands for is said of one: every row stands for some struct, and for no other
  pub rows_stand : (row : List ℕ) → (s : Summary) × StandsFor row s
  pub rows_stand_once : (row : List ℕ) (s s' : Summary) → StandsFor row s → StandsFor row s' → s ≡ s'
  -- demand 2: every relation and count of a word's summary is that of its factor, and the net depth of a joined summary is the sum
  pub relations_mean : RelationsMean
  pub depths_add : (f : List ℕ) (left right : Summary) (j : JoinReply) (d e g : DepthReply) → JoinSays f left right j
      → join_answer j.answer ≡ 0 → DepthSays f left d → DepthSays f right e → DepthSays f j.summary g
      → net_depth g ≡ net_depth d +ℤ net_depth e
  -- demand 3
  pub larger_budget : LargerBudget
  -- a file of long rules is split into one file
  pub split_once : (f F G : List ℕ) → Shortens f F → Shortens f G → F ≡ G
