-- The replies in numbers (Rules, section 9): the answer, its further number, the net depth.
use Rattle.std.specs.Prelude.{ℕ, ℤ, pos, Result, Ok, Err}
use Rattle.summary.specs.declared.FragmentRefusal.{FragmentRefusal}
use Rattle.summary.specs.declared.FragmentRefusal.TheVariants as fragment
use Rattle.summary.specs.declared.JoinRefusal.{JoinRefusal}
use Rattle.summary.specs.declared.JoinRefusal.TheVariants as joined
use Rattle.summary.specs.declared.DepthRefusal.{DepthRefusal}
use Rattle.summary.specs.declared.DepthRefusal.TheVariants as depth

abbrev pub fragment_answer : Result Unit FragmentRefusal → ℕ
fragment_answer (Ok _) = 0
fragment_answer (Err (fragment.BadFile p)) = 7
fragment_answer (Err (fragment.NotATag p)) = 10
fragment_answer (Err (fragment.Mismatch p)) = 11
fragment_answer (Err (fragment.TooDeep p)) = 12

abbrev pub fragment_number : Result Unit FragmentRefusal → ℕ
fragment_number (Ok _) = 0
fragment_number (Err (fragment.BadFile p)) = p
fragment_number (Err (fragment.NotATag p)) = p
fragment_number (Err (fragment.Mismatch p)) = p
fragment_number (Err (fragment.TooDeep p)) = p

abbrev pub join_answer : Result Unit JoinRefusal → ℕ
join_answer (Ok _) = 0
join_answer (Err (joined.BadFile p)) = 7
join_answer (Err joined.NoSummary) = 15
join_answer (Err joined.Mismatch) = 11
join_answer (Err joined.TooDeep) = 12

abbrev pub join_number : Result Unit JoinRefusal → ℕ
join_number (Ok _) = 0
join_number (Err (joined.BadFile p)) = p
join_number (Err joined.NoSummary) = 0
join_number (Err joined.Mismatch) = 0
join_number (Err joined.TooDeep) = 0

abbrev pub depth_answer : Result ℤ DepthRefusal → ℕ
depth_answer (Ok _) = 0
depth_answer (Err (depth.BadFile p)) = 7
depth_answer (Err depth.NoSummary) = 15

abbrev pub depth_number : Result ℤ DepthRefusal → ℕ
depth_number (Ok _) = 0
depth_number (Err (depth.BadFile p)) = p
depth_number (Err depth.NoSummary) = 0

-- a refusal has the net depth 0
abbrev pub net_depth : Result ℤ DepthRefusal → ℤ
net_depth (Ok z) = z
net_depth (Err (depth.BadFile p)) = pos 0
net_depth (Err depth.NoSummary) = pos 0
