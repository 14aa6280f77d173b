-- A byte's step by the tag that it spells (specs/Feeds.antt), by cases on the step of that tag. Assumes nothing.
use mathlib.Core.Path.{◌≡◌, refl, sym}
use mathlib.Core.List.{List}
use Prim.Native.Nat.{ℕ}
use borrow.Author.Rules.{rules}
use Rattle.words.specs.Tags.{Tag, Spells}
use Rattle.words.specs.Reader.{Limited}
use Rattle.words.specs.Classes.{Classed}
use Rattle.std.specs.Prelude.{Option, Some, Result, Ok, Err, MatchResult}
use Rattle.std.specs.Result.{result_ok}
use Rattle.words.specs.declared.Tag as class
use Rattle.pieces.specs.declared.Piece.{Piece}
use Rattle.form.specs.Steps.{outcome, Stepped}
use Rattle.form.specs.declared.Counts.{Counts}
use Rattle.form.specs.declared.Clash.{Clash}
use Rattle.form.specs.declared.Clash.TheVariants as clash
use Rattle.reader.specs.Feeds.{stop_at, Fed}
use Rattle.reader.specs.declared.Stop.{Stop}

module _ (A b p : ℕ) (names values : List ℕ) (after : Tag → Limited Piece) where
  pub fed_spelled : (t : Tag) → Spells A b t → (r : Result Counts Clash) → Stepped r names values (after t)
      → (f : Result Counts Stop) → MatchResult r (λ c. f ≡ Ok c) (λ e. f ≡ Err (stop_at e p)) → Fed f names values after A b p
  unfolding outcome
  fed_spelled t s (Ok c) h f e = rw e (t, s, sym h.says, h.holds)
  fed_spelled t s (Err (clash.Mismatch x y)) h f e = rw e (refl, (t, s, (x, y, sym h.says)))
  fed_spelled t s (Err clash.TooDeep) h f e = rw e (refl, (t, s, sym h.says))

-- the tag that the byte's class names
pub spelled : (A b : ℕ) (k : Option class.Tag) (o : Result class.Tag Stop) (t u : class.Tag) → Classed A b k → k ≡ result_ok o → o ≡ Ok t
    → t ≡ u → Classed A b (Some u)
spelled A b k o t u s e i h = rw (e, i, h) at s

pub ruleset feeds = (fed_spelled, spelled, rules)
