-- What a relation and its count mean (specs/Second.antt). Along a word's reduced form each factor between the tags has a value; so
-- it is balanced, and under a sound file the relation and the count of that value are the factor's (pieces/proofs/PieceLaws.antt). Ends stand before starts in every reduced
-- form. By induction along the form's tags. Assumes nothing.
use mathlib.Core.List.{List}
use Prim.Native.Nat.{ℕ}
use Rattle.words.specs.Tags.{Tag, start, end}
use Rattle.words.specs.Binoid.{Value}
use Rattle.words.specs.Reduced.{Stack, Reduced, whole, after_end, after_start}
use Rattle.words.proofs.ValueLaws.{value_balanced}
use Rattle.words.proofs.ReducedLaws.{reduced_ends_first}
use Rattle.pieces.specs.declared.Piece.{Piece}
use Rattle.pieces.proofs.PieceLaws.{piece_relation, piece_outermost}
use Rattle.template.specs.Layout.{states, schema_rules, ending_states}
use Rattle.template.specs.Order.{IsSound}
use Rattle.template.proofs.SoundLaws.{sound_file}
use Rattle.template.proofs.GrammarLaws.{schema_rules_below, endings_below}
use Rattle.schema.specs.Schemas.{schema_of, binoid_of}
use Rattle.demands.specs.Second.{Relates, Factored, one_factor, one_more, RelationsMean}

module _ (f : List ℕ) (sound : IsSound f) where
  value_relates : {w : List Tag} {p : Piece} → Value (binoid_of f) w p → Relates (schema_of f) w p
  value_relates v =
      let s = sound_file f sound in (
        value_balanced (binoid_of f) v,
        piece_relation (states f) s.few_states (schema_rules f) (ending_states f) (schema_rules_below f s) (endings_below f s) v,
        piece_outermost (states f) s.few_states (schema_rules f) (ending_states f) (schema_rules_below f s) (endings_below f s) v,
      )

  reduced_factored : {w : List Tag} {s : Stack Piece} {c : Piece} → Reduced (binoid_of f) w s c → Factored (schema_of f) w s c
  reduced_factored (whole v) = one_factor (value_relates v)
  reduced_factored (after_end {a = a} n r v) = one_more (end a) (reduced_factored r) (value_relates v)
  reduced_factored (after_start {a = a} r v) = one_more (start a) (reduced_factored r) (value_relates v)

pub relations_mean : RelationsMean
relations_mean f w s sound of_word =
    (reduced_ends_first (binoid_of f) of_word.reduces, reduced_factored f sound of_word.reduces)
