-- The deciding round. Rules, section 8: rounds go on until one has an event, of which the lowest number counts, or has neither an event nor
-- a new image, which is a pass; or until the budget is used. Over any events and any notion of new.
use Rattle.std.specs.Prelude.{ℕ, ◌≤◌, ◌<◌}

-- what the rounds come to: an event in a round, a pass in a round, or the budget used
pub data Decision : Type 0 where
  met : ℕ → ℕ → Decision
  passed : ℕ → Decision
  used : Decision

module _ (Event : ℕ → ℕ → Type 0) (New : ℕ → Type 0) where
  -- no event in round r
  abbrev pub Quiet : ℕ → Type 0
  Quiet r = (k : ℕ) → Event r k → ⊥

  -- every round before r was without event, and found a new image: so the rounds went on
  abbrev pub WentOn : ℕ → Type 0
  WentOn r = (j : ℕ) → 1 ≤ j → j < r → Quiet j × New j

  abbrev pub Decides : ℕ → Decision → Type 0
  Decides budget (met r k) = (1 ≤ r) × (r ≤ budget) × WentOn r × Event r k × ((j : ℕ) → j < k → Event r j → ⊥)
  Decides budget (passed r) = (1 ≤ r) × (r ≤ budget) × WentOn r × Quiet r × (New r → ⊥)
  Decides budget used = (j : ℕ) → 1 ≤ j → j ≤ budget → Quiet j × New j
