-- Where the walk stands (specs/Walks.antt): at rule i, left choice j and right choice k it has seen every pairing of the rules before, of
-- rule i with the left choices before j, and of left choice j with the right choices before k. What it is lent, how the round begins and
-- what is found at a rule is a record each. Assumes nothing.
use mathlib.Core.Path.{◌≡◌}
use mathlib.Core.Bool.{Bool, ◌||◌}
use mathlib.Core.List.{List}
use mathlib.Core.Logic.{◌⊎◌, inl, inr, ⊎_elim}
use Prim.Native.Nat.{ℕ, ◌/◌, ◌<◌}
use native.Mathlib.Omega.{arith}
use lib.ListN.{length}
use Rattle.words.specs.Reader.{Outcome}
use Rattle.hedge.specs.Schema.{most_states}
use Rattle.lore.specs.Lore.{Known}
use Rattle.pieces.specs.declared.Piece.{Piece}
use Rattle.useful.specs.Marks.{RulesInRange}
use Rattle.pairs.specs.Books.{book_of, table_row}
use Rattle.pairs.specs.Slots.{left_slot, right_slot, choices, new_from}
use Rattle.pairs.specs.Turns.{lefts_of}
use Rattle.pairs.specs.declared.Slot.{Slot}
use Rattle.pairs.specs.declared.Tally.{Tally}
use Rattle.shares.specs.Shares.{Sharing, Shares}
use Rattle.walk.specs.News.{news, renews}
use Rattle.walk.specs.Walks.{ResultOver, ProperRows, RoundBegins, Noted}
use Rattle.walk.specs.declared.Round.{Round}
use Rattle.walk.proofs.PairingLaws.{Pairing}
use Rattle.walk.proofs.ProgressLaws.{no_notes, tally_book, Sofar, sofar_start, sofar_seen}

-- ---- what is known

-- what the walk is lent
pub record LentParts (lore rules shares : List ℕ) : Type 0 where
  pub is_lore : Known most_states lore
  pub in_range : RulesInRange rules
  pub all_shares : Shares rules shares

-- the round as it begins from the table t₀, and the nonterminals that have a new row
pub record Begun (lore rules t₀ : List ℕ) (round : Round) (fresh : ℕ) : Type 0 where
  pub proper : ProperRows lore rules (book_of t₀ round.rows)
  pub begins : RoundBegins lore rules t₀ round
  pub fresh_is : fresh ≡ news t₀ round.prev round.rows

-- what is found at a rule
pub record RuleParts : Type 0 where
  pub marks : ℕ
  pub left : Slot
  pub right : Slot
  pub lefts : ℕ
  pub rights : ℕ
  pub new_left : ℕ
  pub new_right : ℕ

-- is the rule walked: is one of its slots renewed?
abbrev pub walked_at : Round → ℕ → RuleParts → Bool
walked_at round fresh parts = renews parts.left fresh round.first || renews parts.right fresh round.first

-- what is known of it at rule i
pub record AtRule (rules : List ℕ) (round : Round) (fresh i : ℕ) (parts : RuleParts) : Type 0 where
  pub is_rule : i < length rules / 4
  pub sharing : Sharing rules i parts.marks
  pub marked : 0 < parts.marks
  pub left_is : parts.left ≡ left_slot rules i
  pub right_is : parts.right ≡ right_slot rules i
  pub lefts_is : parts.lefts ≡ lefts_of (walked_at round fresh parts) (choices parts.left round.rows)
  pub rights_is : parts.rights ≡ choices parts.right round.rows
  pub new_left : parts.new_left ≡ new_from parts.left round.prev round.first
  pub new_right : parts.new_right ≡ new_from parts.right round.prev round.first

-- ---- where the walk stands

-- (i', j', k') comes before (i, j, k)
abbrev pub Before : ℕ → ℕ → ℕ → ℕ → ℕ → ℕ → Type 0
Before i j k i' j' k' = (i' < i) ⊎ ((i' ≡ i) × ((j' < j) ⊎ ((j' ≡ j) × (k' < k))))

-- a rule and two choices, the table and the tally there
pub record Place : Type 0 where
  pub i : ℕ
  pub j : ℕ
  pub k : ℕ
  pub table : List ℕ
  pub found : Tally

abbrev pub place : ℕ → ℕ → ℕ → List ℕ → Tally → Place
place i j k t found = record { i = i; j = j; k = k; table = t; found = found }

-- the pairings of the table t₀ before (i, j, k)
abbrev pub Visited : List ℕ → List ℕ → List ℕ → Round → ℕ → ℕ → ℕ → ℕ → Outcome Piece → Type 0
Visited lore rules t₀ round i j k x o =
    (i' j' k' : ℕ) × Before i j k i' j' k' × Pairing lore rules (book_of t₀ round.rows) i' j' k' x o

-- the walk from the table t₀ stands at this place
pub record Going (lore rules : List ℕ) (round : Round) (fresh : ℕ) (t₀ : List ℕ) (p : Place) : Type 0 where
  pub begun : Begun lore rules t₀ round fresh
  pub sofar : Sofar lore rules (ResultOver lore rules (book_of t₀ round.rows)) (Visited lore rules t₀ round p.i p.j p.k)
      (book_of t₀ round.rows) p.table p.found

pub going_start : {lore rules t₀ : List ℕ} {round : Round} {fresh : ℕ} → Begun lore rules t₀ round fresh
    → Going lore rules round fresh t₀ (place 0 0 0 t₀ (no_notes round.rows))
going_start {lore = lore} {rules = rules} {t₀ = t₀} {round = round} begun =
    record {
      begun = begun;
      sofar = sofar_start lore rules (ResultOver lore rules (book_of t₀ round.rows)) (Visited lore rules t₀ round 0 0 0)
          (book_of t₀ round.rows) begun.proper none;
    }
  where
    none : (x : ℕ) (o : Outcome Piece) → Visited lore rules t₀ round 0 0 0 x o → ⊥
    none x o (i, j, k, inl l, p) = omega arith
    none x o (i, j, k, inr (e, inl l), p) = omega arith
    none x o (i, j, k, inr (e, inr (f, l)), p) = omega arith

module _ {lore rules t₀ : List ℕ} {round : Round} {fresh : ℕ} {p : Place} (going : Going lore rules round fresh t₀ p) where
  pub same : (k : ℕ) → k < round.rows → table_row p.table k ≡ table_row t₀ k
  same = going.sofar.grown.same_rows

  -- further on, if what is passed over is noted
  pub onward : (i j k : ℕ)
      → ((a b c x : ℕ) (o : Outcome Piece) → Pairing lore rules (book_of t₀ round.rows) a b c x o → Before i j k a b c
      → Before p.i p.j p.k a b c ⊎ Noted lore rules p.found.notes (tally_book p.table p.found) x o)
      → Going lore rules round fresh t₀ (place i j k p.table p.found)
  onward i j k f =
      record {
        begun = going.begun;
        sofar = sofar_seen going.sofar
            (λ x o (a, b, c, l, m). ⊎_elim (λ h. going.sofar.seen x o (a, b, c, h, m)) (λ w. w) (f a b c x o m l));
      }
