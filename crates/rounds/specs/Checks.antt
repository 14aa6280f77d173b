-- What the check of a template set must answer, and what it leaves in the worktable.
-- Rules, sections 8 to 10 and 12: refusals come in the order 9, 8, 7, 6 and leave the worktable as it was; then the rounds decide. An
-- answer from 1 to 5 leaves 5,376 zeros, a pass the rows of the images and zeros behind them. What a longer worktable has past its first
-- 5,376 entries stays, whatever the answer.
use Rattle.std.specs.Prelude.{◌≡◌, Ok, Err, ℕ, suc, ◌*◌, ◌-◌, ◌≤◌, ◌<◌, length, drop, replicate}
use mathlib.Core.List.{List, ◌++◌, Memᴰ}
use Rattle.hedge.specs.Schema.{Valid}
use Rattle.template.specs.Layout.{template_rules}
use Rattle.template.specs.Order.{IsSound, reading, faulty}
use Rattle.template.specs.Grammar.{Symbol, Gives}
use Rattle.pieces.specs.declared.Piece.{Piece}
use Rattle.pieces.specs.Pieces.{most_tags}
use Rattle.schema.specs.Schemas.{schema_of, binoid_of}
use Rattle.trees.specs.Trees.{Productive}
use Rattle.trees.specs.Events.{Pair, Image, Event, New}
use Rattle.trees.specs.Verdict.{Decision, met, passed, used, Decides}
use Rattle.rows.specs.Tables.{flat, Ascending}
use Rattle.worktable.specs.Packed.{row_width, most_images, table_long}
pub use Rattle.worktable.specs.Packed.{PairRow}
use Rattle.rounds.specs.declared.CheckRefusal.TheVariants as check
use Rattle.rounds.specs.Replies.{CheckReply}

module _ (f : List ℕ) where
  -- the file's grammar, its images, events and new images, at most 16 tags and 256 images
  abbrev pub RuleOf : ℕ → List Symbol → Type 0
  RuleOf = Gives (template_rules f)

  abbrev pub ImageOf : ℕ → Pair Piece → Type 0
  ImageOf = Image RuleOf (binoid_of f) (Valid (schema_of f)) most_tags most_images

  abbrev pub EventOf : ℕ → ℕ → Type 0
  EventOf = Event RuleOf (binoid_of f) (Valid (schema_of f)) most_tags most_images

  abbrev pub NewOf : ℕ → Type 0
  NewOf = New RuleOf (binoid_of f) (Valid (schema_of f)) most_tags most_images

  -- the start derives some page
  abbrev pub HasPage : Type 0
  HasPage = Productive RuleOf 0

  -- the rows, ascending, are those of the images after round r
  pub record Rows (r : ℕ) (rows : List (List ℕ)) : Type 0 where
    pub ascending : Ascending rows
    pub each_image : (row : List ℕ) → Memᴰ row rows → (p : Pair Piece) × ImageOf r p × PairRow row p
    pub every_image : (p : Pair Piece) → ImageOf r p → (row : List ℕ) × Memᴰ row rows × PairRow row p

-- the most rounds
abbrev pub most_rounds : ℕ
most_rounds = suc most_images

-- the rows, then zeros; zeros alone
abbrev pub after_pass : List (List ℕ) → List ℕ → List ℕ
after_pass rows t = flat rows ++ (replicate (table_long - length rows * row_width) 0 ++ drop table_long t)

abbrev pub zeroed : List ℕ → List ℕ
zeroed t = replicate table_long 0 ++ drop table_long t

module _ (f t : List ℕ) (budget : ℕ) where
  -- the worktable is long enough, and the budget from 1 to 257
  abbrev pub Lent : Type 0
  Lent = (table_long ≤ length t) × (1 ≤ budget) × (budget ≤ most_rounds)

  -- the rounds come to the decision
  abbrev pub Decided : Decision → Type 0
  Decided d = Lent × IsSound f × HasPage f × Decides (EventOf f) (NewOf f) budget d

  abbrev pub CheckSays : CheckReply → List ℕ → Type 0
  CheckSays (Ok p) t' =
      Decided (passed p.rounds) × ((rows : List (List ℕ)) × Rows f p.rounds rows × (p.images ≡ length rows) × (t' ≡ after_pass rows t))
  CheckSays (Err (check.Mismatch r)) t' = Decided (met r 1) × (t' ≡ zeroed t)
  CheckSays (Err (check.Invalid r)) t' = Decided (met r 2) × (t' ≡ zeroed t)
  CheckSays (Err (check.TooDeep r)) t' = Decided (met r 3) × (t' ≡ zeroed t)
  CheckSays (Err (check.Crowded r)) t' = Decided (met r 4) × (t' ≡ zeroed t)
  CheckSays (Err (check.OutOfRounds b)) t' = (b ≡ budget) × Decided used × (t' ≡ zeroed t)
  CheckSays (Err check.NoPage) t' = Lent × IsSound f × (HasPage f → ⊥) × (t' ≡ t)
  CheckSays (Err (check.BadFile p)) t' = Lent × (reading f ≡ faulty p) × (t' ≡ t)
  CheckSays (Err check.BadBudget) t' = (table_long ≤ length t) × ((1 ≤ budget) × (budget ≤ most_rounds) → ⊥) × (t' ≡ t)
  CheckSays (Err check.ShortTable) t' = (length t < table_long) × (t' ≡ t)
