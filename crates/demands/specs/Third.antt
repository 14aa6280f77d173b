-- Demand 3 (Rules, section 12): a template set that passes produces only valid pages, which the page reader takes, or calls too deep
-- exactly past 16; a broken one can produce an invalid page; and every answer, round and total is that of the tree heights. Said of the
-- answer a, the number n and the images m, as demand 1 is.
use Rattle.std.specs.Prelude.{◌≡◌, ◌↔◌, ◌⊎◌, ℕ, ◌+◌, ◌≤◌, ◌<◌, length}
use mathlib.Core.List.{List, ◌++◌, Memᴰ}
use Rattle.words.specs.Tags.{Tag}
use Rattle.words.specs.Outermost.{OneElement}
use Rattle.hedge.specs.Schema.{Valid}
use Rattle.pieces.specs.Pieces.{most_tags}
use Rattle.template.specs.Layout.{name_count}
use Rattle.template.specs.Order.{IsSound}
use Rattle.reader.specs.Reads.{Spelled}
use Rattle.schema.specs.Schemas.{schema_of, binoid_of}
use Rattle.trees.specs.Trees.{Tree}
use Rattle.trees.specs.Events.{Under}
use Rattle.trees.specs.Verdict.{met, passed, used, Decides}
use Rattle.form.specs.Held.{form_of, last_of}
use Rattle.form.specs.declared.Summary.{Summary}
use Rattle.summary.specs.Words.{SummaryOf}
use Rattle.page.specs.Pages.{PageSays, answer as page_answer}
use Rattle.page.specs.Pages.{PageReply}
use Rattle.worktable.specs.Packed.{most_images, packed}
use Rattle.rounds.specs.Checks.{RuleOf, EventOf, NewOf, HasPage, Rows, Lent, most_rounds, CheckSays}
use Rattle.rounds.specs.Answers.{answer}
use Rattle.rounds.specs.Replies.{CheckReply}
use Rattle.demands.specs.Second.{opened, closed, Factored}

-- ---- what a pass and a break mean

-- a page that the template set can produce: a string of the start
abbrev pub Produces : List ℕ → List Tag → Type 0
Produces f w = (n : ℕ) × Tree (RuleOf f) 0 w n

-- the word nests past n: at the deepest point of some beginning more than n elements are open
abbrev pub NestsPast : ℕ → List Tag → Type 0
NestsPast n w = (x y : List Tag) × (w ≡ x ++ y) × (closed x + n < opened x)

-- the page reader gives 0, or 12 exactly where the page nests past 16, and never another answer
abbrev pub ReadAsValid : List ℕ → List Tag → Type 0
ReadAsValid f w =
    (bytes : List ℕ) → Spelled (name_count f) bytes w → (r : PageReply) → PageSays f bytes r
    → ((page_answer r ≡ 0) ⊎ (page_answer r ≡ 12)) × ((page_answer r ≡ 12) ↔ NestsPast most_tags w)

-- every page that can be produced is valid, is spelled by some bytes, and is read so
abbrev pub PassMeans : List ℕ → Type 0
PassMeans f =
    (w : List Tag) → Produces f w → Valid (schema_of f) w × ((bytes : List ℕ) × Spelled (name_count f) bytes w) × ReadAsValid f w

-- every page that can be produced is an XML 1.0 document in its element structure: one root (production 1), and every element in it closed in
-- its turn by its own name
abbrev pub DocumentsOnly : List ℕ → Type 0
DocumentsOnly f = (w : List Tag) → Produces f w → OneElement w

-- some page that can be produced is invalid
abbrev pub BrokenMeans : List ℕ → Type 0
BrokenMeans f = (w : List Tag) × Produces f w × (Valid (schema_of f) w → ⊥)

-- ---- what a row means

-- the row is that of a nonterminal and the summary of one of its strings, of a tree that is not higher than the round; each relation of
-- that summary, with its count, is that of its factor
pub record RowMeans (f : List ℕ) (round : ℕ) (row : List ℕ) : Type 0 where
  pub of : ℕ
  pub string : List Tag
  pub under : Under (RuleOf f) (binoid_of f) (Valid (schema_of f)) most_tags most_images round of string
  pub summary : Summary
  pub summary_of : SummaryOf f string summary
  pub relations : Factored (schema_of f) string (form_of summary) (last_of summary)
  pub row_is : row ≡ packed of summary

-- ---- the check

-- with a sound file, a worktable that is long enough, a budget from 1 to 257 and a start that derives some page: each answer and its number
-- exactly on the tree heights
pub record Exact (f : List ℕ) (budget a n m : ℕ) : Type 0 where
  pub event_round : (k j : ℕ) → 1 ≤ k → k ≤ 4 → ((a ≡ k) × (n ≡ j)) ↔ Decides (EventOf f) (NewOf f) budget (met j k)
  pub pass_round : (j : ℕ) → ((a ≡ 0) × (n ≡ j)) ↔ Decides (EventOf f) (NewOf f) budget (passed j)
  pub total : a ≡ 0 → (rows : List (List ℕ)) × Rows f n rows × (m ≡ length rows)
  pub budget_used : ((a ≡ 5) × (n ≡ budget)) ↔ Decides (EventOf f) (NewOf f) budget used

pub record Checked (f t : List ℕ) (budget a n m : ℕ) : Type 0 where
  pub pass_means : a ≡ 0 → PassMeans f
  pub documents : a ≡ 0 → DocumentsOnly f
  pub broken_means : (a ≡ 1) ⊎ (a ≡ 2) → BrokenMeans f
  pub exact : Lent f t budget → IsSound f → HasPage f → Exact f budget a n m
  pub rows_mean : a ≡ 0 → (rows : List (List ℕ)) → Rows f n rows → (row : List ℕ) → Memᴰ row rows → RowMeans f n row
  pub decided_at_257 : budget ≡ most_rounds → a ≡ 5 → ⊥

-- within its range a larger budget changes no answer other than 5
abbrev pub LargerBudget : Type 0
LargerBudget =
    (f t t' u u' : List ℕ) (budget more : ℕ) (r s : CheckReply) → CheckSays f t budget r t' → CheckSays f u more s u'
    → Lent f t budget → Lent f u more → budget ≤ more → (answer r ≡ 5 → ⊥) → r ≡ s
