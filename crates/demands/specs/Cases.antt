-- The cases of the rules that are proved: those of section 7 as one table, with the file K, the bytes, and what must come of them; and the
-- file that section 13 splits.
use Rattle.std.specs.Prelude.{◌≡◌, ℕ, suc, ◌*◌, ◌≤◌, ◌<◌, ℤ, pos, length, take, drop, Ok, Err}
use mathlib.Core.List.{List, [], ◌∷◌, ◌++◌, Memᴰ}
use Rattle.summary.specs.Fragments.{FragmentSays}
use Rattle.summary.specs.Joins.{JoinSays, DepthSays}
use Rattle.summary.specs.Answers.{fragment_answer, join_answer, join_number, depth_answer, net_depth}
use Rattle.pieces.specs.Pieces.{piece_long}
use Rattle.form.specs.Held.{tag_count}
use Rattle.form.specs.declared.Summary.{Summary}
use Rattle.summary.specs.Replies.{FragmentReply, JoinReply, DepthReply}
use Rattle.page.specs.Pages.{PageReply, PageSays, answer, number}
use Rattle.long.specs.Splits.{SplitReply, SplitSays}
use Rattle.long.specs.declared.SplitRefusal.TheVariants.{Short}

-- file K (Rules, section 11): its schema wants one b, not more and not less, among any number of a
unfoldable pub K : List ℕ
K =
    2 ∷ 3 ∷ 2 ∷ 0 ∷ 16 ∷ 0 ∷ 3 ∷ 0 ∷ 28 ∷ 0 ∷ 4 ∷ 0 ∷ 44 ∷ 0 ∷ 1 ∷ 0
    ∷ 0 ∷ 2 ∷ 65 ∷ 32 ∷ 1 ∷ 2 ∷ 0 ∷ 66 ∷ 2 ∷ 2 ∷ 1 ∷ 33
    ∷ 0 ∷ 0 ∷ 0 ∷ 1 ∷ 0 ∷ 0 ∷ 1 ∷ 0 ∷ 0 ∷ 1 ∷ 1 ∷ 1 ∷ 1 ∷ 0 ∷ 1 ∷ 1 ∷ 1 ∷ []

-- a page with its answer and number; a fragment, and a join of two fragments, with its ends, starts, names and pieces; a fragment's net
-- depth; a join's refusal
pub data Case : Type 0 where
  page : List ℕ → ℕ → ℕ → Case
  fragment : List ℕ → ℕ → ℕ → List ℕ → List ℕ → Case
  depth : List ℕ → ℤ → Case
  joined : List ℕ → List ℕ → ℕ → ℕ → List ℕ → List ℕ → Case
  refused : List ℕ → List ℕ → ℕ → ℕ → Case

-- the numbers of ends and starts, the names of the tags, and the pieces: each relation, and behind it its count of outermost elements
abbrev pub ShowsSummary : Summary → ℕ → ℕ → List ℕ → List ℕ → Type 0
ShowsSummary s ends starts names pieces =
    (s.counts.ends ≡ ends) × (s.counts.starts ≡ starts) × (take (tag_count s.counts) s.names ≡ names)
    × (take (suc (tag_count s.counts) * piece_long) s.values ≡ pieces)

-- what a case says of every reply that the promises allow under K
abbrev pub CaseHolds : Case → Type 0
CaseHolds (page bytes a n) = (r : PageReply) → PageSays K bytes r → (answer r ≡ a) × (number r ≡ n)
CaseHolds (fragment bytes ends starts names pieces) =
    (r : FragmentReply) → FragmentSays K bytes r → (fragment_answer r.answer ≡ 0) × ShowsSummary r.summary ends starts names pieces
CaseHolds (depth bytes z) =
    (r : FragmentReply) (d : DepthReply) → FragmentSays K bytes r → DepthSays K r.summary d
    → (fragment_answer r.answer ≡ 0) × (depth_answer d ≡ 0) × (net_depth d ≡ z)
CaseHolds (joined u v ends starts names pieces) =
    (r s : FragmentReply) (j : JoinReply) → FragmentSays K u r → FragmentSays K v s → JoinSays K r.summary s.summary j
    → (join_answer j.answer ≡ 0) × ShowsSummary j.summary ends starts names pieces
CaseHolds (refused u v a n) =
    (r s : FragmentReply) (j : JoinReply) → FragmentSays K u r → FragmentSays K v s → JoinSays K r.summary s.summary j
    → (join_answer j.answer ≡ a) × (join_number j.answer ≡ n)

unfoldable pub cases : List Case
cases =
    page (1 ∷ 33 ∷ []) 0 0
    ∷ fragment (1 ∷ 33 ∷ []) 0 0 [] (2 ∷ 1 ∷ [])
    ∷ page [] 14 0
    ∷ fragment [] 0 0 [] (513 ∷ 0 ∷ [])
    ∷ page (0 ∷ 1 ∷ 33 ∷ 32 ∷ []) 0 0
    ∷ page (0 ∷ 32 ∷ 1 ∷ 33 ∷ []) 14 0
    ∷ page (1 ∷ 33 ∷ 1 ∷ 33 ∷ []) 14 0
    ∷ page (0 ∷ 33 ∷ []) 11 1
    ∷ page (0 ∷ []) 13 0
    ∷ page (32 ∷ []) 13 0
    ∷ page (2 ∷ []) 10 0
    ∷ fragment (32 ∷ 0 ∷ []) 1 1 (0 ∷ 0 ∷ []) (513 ∷ 0 ∷ 513 ∷ 0 ∷ 513 ∷ 0 ∷ [])
    ∷ depth (32 ∷ 0 ∷ []) (pos 0)
    ∷ joined (0 ∷ 1 ∷ []) (33 ∷ 32 ∷ []) 0 0 [] (2 ∷ 1 ∷ [])
    ∷ refused (0 ∷ []) (33 ∷ []) 11 0
    ∷ []

-- the one statement
abbrev pub AllHold : Type 0
AllHold = (c : Case) → Memᴰ c cases → CaseHolds c

-- ---- splitting

-- two long rules: 0 to start a, end a, start b; 0 to start b, end b, start a, end a
unfoldable pub long_case : List ℕ
long_case =
    2 ∷ 1 ∷ 1 ∷ 0 ∷ 16 ∷ 0 ∷ 2 ∷ 0 ∷ 44 ∷ 0 ∷ 0 ∷ 0 ∷ 44 ∷ 0 ∷ 0 ∷ 0
    ∷ 0 ∷ 3 ∷ 0 ∷ 32 ∷ 1 ∷ 255 ∷ 255 ∷ 255 ∷ 255 ∷ 255 ∷ 255 ∷ 255 ∷ 255 ∷ 255
    ∷ 0 ∷ 4 ∷ 1 ∷ 33 ∷ 0 ∷ 32 ∷ 255 ∷ 255 ∷ 255 ∷ 255 ∷ 255 ∷ 255 ∷ 255 ∷ 255 ∷ []

-- five ordinary ones: nonterminal 1 is the first rule's rest, 2 and 3 are the second's
unfoldable pub short_case : List ℕ
short_case =
    2 ∷ 4 ∷ 1 ∷ 0 ∷ 16 ∷ 0 ∷ 5 ∷ 0 ∷ 36 ∷ 0 ∷ 0 ∷ 0 ∷ 36 ∷ 0 ∷ 0 ∷ 0
    ∷ 0 ∷ 2 ∷ 0 ∷ 65 ∷ 0 ∷ 2 ∷ 1 ∷ 66 ∷ 1 ∷ 2 ∷ 32 ∷ 1 ∷ 2 ∷ 2 ∷ 33 ∷ 67 ∷ 3 ∷ 2 ∷ 0 ∷ 32 ∷ []

-- every reply that is promised writes these 36 bytes, or finds the output too short for them
pub record SplitHolds (out out' : List ℕ) (r : SplitReply) : Type 0 where
  pub written : 36 ≤ length out → (r ≡ Ok 36) × (out' ≡ short_case ++ drop 36 out)
  pub short : length out < 36 → (r ≡ Err Short) × (out' ≡ out)

abbrev pub SplitCase : Type 0
SplitCase = (out out' : List ℕ) (r : SplitReply) → SplitSays long_case out r out' → SplitHolds out out' r
