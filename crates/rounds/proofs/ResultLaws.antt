-- What the rules make of the rows of a book, where its rows are the images after a round r without event: the images and the events of
-- round r + 1. These are the laws of trees on the next round, said of the rows; what is joined by the lore is joined by the file's pieces.
-- Assumes nothing.
use mathlib.Core.List.{List}
use mathlib.Core.Logic.{◌↔◌}
use Prim.Native.Nat.{ℕ, suc, ◌≤◌, ◌<◌}
use Rattle.words.specs.Reduced.{Stack, tags}
use Rattle.words.specs.Reader.{Outcome, reduced, differ}
use Rattle.hedge.specs.Schema.{Valid}
use Rattle.pieces.specs.declared.Piece.{Piece}
use Rattle.pieces.specs.Pieces.{most_tags, lifted}
use Rattle.template.specs.Layout.{template_rules}
use Rattle.template.specs.Order.{IsSound}
use Rattle.schema.specs.Schemas.{schema_of, binoid_of, LoreOf}
use Rattle.schema.proofs.SchemaLaws.{laws_of, lore_carries}
use Rattle.trees.specs.Events.{Pair, Mismatch, InvalidPage, TooDeep, Crowded}
use Rattle.trees.specs.Results.{Result}
use Rattle.trees.specs.Verdict.{Quiet}
use Rattle.trees.proofs.RoundLaws.{InvalidOutcome, result_same, next_image, next_mismatch, next_deep, next_invalid}
use Rattle.worktable.specs.Packed.{most_images}
use Rattle.pairs.specs.Books.{Book, Tabled}
use Rattle.walk.specs.Walks.{ResultOver, ValidForm}
use Rattle.rounds.specs.Checks.{RuleOf, ImageOf, EventOf, NewOf}
use Rattle.rounds.proofs.FormLaws.{valid_form, valid_balanced}

module _ (f : List ℕ) where
  -- the four events of a round under the file
  abbrev pub MismatchOf : ℕ → Type 0
  MismatchOf = Mismatch (RuleOf f) (binoid_of f) (Valid (schema_of f)) most_tags most_images

  abbrev pub InvalidOf : ℕ → Type 0
  InvalidOf = InvalidPage (RuleOf f) (binoid_of f) (Valid (schema_of f)) most_tags most_images

  abbrev pub DeepOf : ℕ → Type 0
  DeepOf = TooDeep (RuleOf f) (binoid_of f) (Valid (schema_of f)) most_tags most_images

  abbrev pub CrowdedOf : ℕ → Type 0
  CrowdedOf = Crowded (RuleOf f) (binoid_of f) (Valid (schema_of f)) most_tags most_images

  -- the rows of the book are the images after round r
  abbrev pub Holding : Book → ℕ → Type 0
  Holding b r = (p : Pair Piece) → Tabled b p ↔ ImageOf f r p

  -- what the file's rules make of them, joined by the lore
  abbrev pub Over : List ℕ → Book → ℕ → Outcome Piece → Type 0
  Over lore = ResultOver lore (template_rules f)

module _ (f lore : List ℕ) (sound : IsSound f) (taught : LoreOf f lore) (b : Book) (r : ℕ) (rows : Holding f b r)
    (quiet : Quiet (EventOf f) (NewOf f) r) where
  over_file : (x : ℕ) (o : Outcome Piece) → Over f lore b x o ↔ Result (binoid_of f) (Tabled b) (RuleOf f) x o
  over_file x o =
      lore_carries f lore sound taught
      (λ empty follow around. Over f lore b x o ↔ Result (lifted empty follow around) (Tabled b) (RuleOf f) x o)
      (λ a. a, λ a. a)

  over_images : (x : ℕ) (o : Outcome Piece) → Over f lore b x o ↔ Result (binoid_of f) (ImageOf f r) (RuleOf f) x o
  over_images x o = (λ a. (result_same rows).0 ((over_file x o).0 a), λ a. (over_file x o).1 ((result_same rows).1 a))

  pub over_image : (p : Pair Piece)
      → ImageOf f (suc r) p ↔ (Over f lore b p.of (reduced p.form p.last) × (tags p.form ≤ most_tags))
  over_image p =
      let (there, back) = next_image (laws_of f sound) (quiet 1) (quiet 3) in
      (λ i. let (o, few) = there i in ((over_images p.of _).1 o, few), λ (o, few). back ((over_images p.of _).0 o, few))

  pub over_mismatch : MismatchOf f (suc r) ↔ ((x a c : ℕ) × Over f lore b x (differ a c))
  over_mismatch =
      let (there, back) = next_mismatch (laws_of f sound) (quiet 1) (quiet 3) in
      (λ m. let (x, a, c, o) = there m in (x, a, c, (over_images x _).1 o), λ (x, a, c, o). back (x, a, c, (over_images x _).0 o))

  pub over_deep : DeepOf f (suc r)
      ↔ ((x : ℕ) × (s : Stack Piece) × (c : Piece) × Over f lore b x (reduced s c) × (most_tags < tags s))
  over_deep =
      let (there, back) = next_deep (laws_of f sound) (quiet 1) (quiet 3) in (
        λ d. let (x, s, c, o, h) = there d in (x, s, c, (over_images x _).1 o, h),
        λ (x, s, c, o, h). back (x, s, c, (over_images x _).0 o, h),
      )

  pub over_invalid : InvalidOf f (suc r) ↔ ((o : Outcome Piece) × Over f lore b 0 o × InvalidOutcome (ValidForm lore) o)
  over_invalid =
      let (there, back) = next_invalid (laws_of f sound) (quiet 1) (quiet 3) (ValidForm lore) (valid_form f lore sound taught)
      (valid_balanced f) in
      (λ v. let (o, a, h) = there v in (o, (over_images 0 o).1 a, h), λ (o, a, h). back (o, (over_images 0 o).0 a, h))
