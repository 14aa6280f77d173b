-- The event that a round's walk met. Rules, section 8: of several events in one round the one with the lowest number counts.
use Rattle.std.specs.Prelude.{◌≡◌, true, false, ℕ, Option, Some, None, Result, Ok, Err}
use Rattle.pairs.specs.declared.Tally.{Tally}
use Rattle.rounds.specs.declared.Event.{Event}
use Rattle.rounds.specs.declared.Event.TheVariants.{Mismatch, Invalid, TooDeep, Crowded}
use Rattle.rounds.specs.declared.CheckRefusal.{CheckRefusal}
use Rattle.rounds.specs.declared.CheckRefusal.TheVariants as check

-- a mismatch where the walk stopped, else the lowest that it noted, else none, with so many rows
abbrev pub Met : Option Tally → Result ℕ Event → Type 0
Met None (Err Mismatch) = Unit {0}
Met None (Err Invalid) = ⊥
Met None (Err TooDeep) = ⊥
Met None (Err Crowded) = ⊥
Met None (Ok m) = ⊥
Met (Some tally) (Err Mismatch) = ⊥
Met (Some tally) (Err Invalid) = tally.notes.invalid ≡ true
Met (Some tally) (Err TooDeep) = (tally.notes.invalid ≡ false) × (tally.notes.deep ≡ true)
Met (Some tally) (Err Crowded) = (tally.notes.invalid ≡ false) × (tally.notes.deep ≡ false) × (tally.notes.crowded ≡ true)
Met (Some tally) (Ok m) =
    (tally.notes.invalid ≡ false) × (tally.notes.deep ≡ false) × (tally.notes.crowded ≡ false) × (m ≡ tally.rows)

-- the refusal for an event of round r
abbrev pub event_refusal : Event → ℕ → CheckRefusal
event_refusal Mismatch r = check.Mismatch r
event_refusal Invalid r = check.Invalid r
event_refusal TooDeep r = check.TooDeep r
event_refusal Crowded r = check.Crowded r
