-- The replies of joining, from what the code has: the left summary stands in the arrays, and what joining the right one leaves there, or
-- its refusal, is the limit of the join of the two forms. Assumes nothing.
use mathlib.Core.Path.{◌≡◌, refl, sym, ◌∙◌}
use mathlib.Core.List.{List}
use Prim.Native.Nat.{ℕ, ◌≤◌}
use native.Mathlib.Decide.{dec_le}
use native.Mathlib.Omega.{arith}
use lib.ListN.{length}
use borrow.Author.Rules.{rules}
use Rattle.std.specs.Prelude.{Result, Ok, Err}
use Rattle.words.specs.Reader.{reduced, limit, join}
use Rattle.words.proofs.LimitLaws.{Answers, limit_iff}
use Rattle.pieces.specs.Pieces.{most_tags, pieces_long, piece_at, lifted, Counted}
use Rattle.template.specs.Order.{IsSound, reading, faulty}
use Rattle.template.specs.declared.Shape.{Shape}
use Rattle.template.proofs.ShapeLaws.{shape_sound}
use Rattle.form.specs.Held.{tag_count, summary_of, form_of, last_of, Holds}
use Rattle.form.specs.Steps.{Stepped, outcome, after_form}
use Rattle.form.specs.declared.Counts.{Counts}
use Rattle.form.specs.declared.Clash.{Clash}
use Rattle.form.specs.declared.Clash.TheVariants as clash
use Rattle.form.specs.declared.Summary.{Summary}
use Rattle.form.proofs.TurnLaws.{kept_holds}
use Rattle.form.proofs.FormLaws.{form_limit}
use Rattle.schema.specs.Schemas.{binoid_of, LoreOf}
use Rattle.schema.proofs.SchemaLaws.{lore_carries}
use Rattle.summary.specs.declared.JoinRefusal.TheVariants.{BadFile, NoSummary}
use Rattle.summary.specs.Replies.{clashed, reply_of}
use Rattle.summary.specs.Joins.{SummaryUnder, BothSummaries, outcome_of, JoinSays}
use Rattle.summary.proofs.PackingLaws.{holds_packs}

-- a summary in the arrays

pub holds_summary : (f : List ℕ) (s : Summary) → length s.names ≡ most_tags → length s.values ≡ pieces_long → SummaryUnder f s
    → Holds s
holds_summary f s l m h =
    record { names_long = l; values_long = m; room = h.few; unused = h.unused; counted = λ k. at k (dec_le k (tag_count s.counts)) }
  where
    at : (k : ℕ) → Dec (k ≤ tag_count s.counts) → Counted (piece_at s.values k)
    at k (yes l) = (h.within k l).1
    at k (no l) = rw (h.unused.values_zero k (omega arith)) (omega arith)

-- a refusal before anything is joined

module _ (f : List ℕ) (left right : Summary) where
  pub join_bad : (p : ℕ) → reading f ≡ faulty p → JoinSays f left right (reply_of (Err (BadFile p)))
  join_bad p e = (e, refl)

  pub join_no_left : IsSound f → (SummaryUnder f left → ⊥) → JoinSays f left right (reply_of (Err NoSummary))
  join_no_left s n = (s, λ p q. n p, refl)

  pub join_no_right : IsSound f → (SummaryUnder f right → ⊥) → JoinSays f left right (reply_of (Err NoSummary))
  join_no_right s n = (s, λ p q. n q, refl)

-- what joining leaves

module _ (f : List ℕ) (shape : Shape) (sound : reading f ≡ Ok shape) (lore : List ℕ) (taught : LoreOf f lore)
    (left right : Summary) (hl : SummaryUnder f left) (hr : SummaryUnder f right) (t : Result Counts Clash) (names values : List ℕ)
    (stepped : Stepped t names values (after_form lore left right)) where
  joined_limit : Answers most_tags (outcome_of f left right) (outcome t names values)
  joined_limit =
      let e = stepped.says ∙ form_limit lore left right hl.few in
      let d = lore_carries f lore (shape_sound f shape sound) taught
      (λ u g w.
      outcome t names values
      ≡ limit (lifted u g w) most_tags (join (lifted u g w) (reduced (form_of left) (last_of left)) (form_of right) (last_of right))) e in
      (limit_iff (binoid_of f) most_tags (outcome_of f left right) (outcome t names values)).0 (sym d)

  both_summaries : BothSummaries f left right
  both_summaries = (shape_sound f shape sound, hl, hr)

  pub joined_kept : (c : Counts) → t ≡ Ok c → JoinSays f left right (reply_of (Ok (summary_of c names values)))
  unfolding outcome
  joined_kept c d =
      let (o, few) = rw d at joined_limit in
      let k = kept_holds t names values _ c stepped d in
      (both_summaries, (_, _, o, few, holds_packs (summary_of c names values) k))

  joined_clash : (e : Clash) → Answers most_tags (outcome_of f left right) (outcome (Err e) names values)
      → JoinSays f left right (reply_of (Err (clashed e)))
  unfolding outcome
  joined_clash (clash.Mismatch a b) o = (both_summaries, (a, b, o), refl)
  joined_clash clash.TooDeep o = (both_summaries, o, refl)

  pub joined_refused : (e : Clash) → t ≡ Err e → JoinSays f left right (reply_of (Err (clashed e)))
  joined_refused e d = joined_clash e (rw d at joined_limit)

pub ruleset join_turns = (joined_kept, joined_refused, rules)
