-- From place to place in the walk (PlaceLaws.antt): the end of a loop and the choices that are passed over each lead on. Those are of a left
-- choice that does not fit, or pair two old choices, whose outcome met no event; a rule that is not walked is marked for no nonterminal, or
-- has only old choices. Assumes nothing.
use mathlib.Core.Path.{◌≡◌, refl, sym, ◌∙◌}
use mathlib.Core.Bool.{Bool, true, false, false≢true}
use mathlib.Core.List.{List}
use mathlib.Core.Logic.{◌⊎◌, inl, inr, ⊎_elim}
use Prim.Native.Nat.{ℕ, ◌+◌, ◌/◌, ◌≤◌, ◌<◌}
use native.Mathlib.Omega.{arith}
use lib.Dec.{ltb}
use lib.ListN.{length, get_or}
use borrow.Author.Tests.{ltb-true, ltb-false}
use Rattle.std.specs.Prelude.{Some}
use Rattle.std.proofs.lemmas.Bool.{or_parts}
use Rattle.words.specs.Reader.{Outcome}
use Rattle.pieces.specs.declared.Piece.{Piece}
use Rattle.pieces.specs.Pieces.{pieces}
use Rattle.pairs.specs.Books.{book_of}
use Rattle.pairs.specs.Slots.{left_slot, right_slot, choices, new_from}
use Rattle.pairs.specs.Turns.{slot_fits, left_from, right_from}
use Rattle.shares.proofs.ShareLaws.{nothing_bit, below_next}
use Rattle.walk.specs.News.{news, renews}
use Rattle.walk.specs.Walks.{RoundBegins, Noted, Walked}
use Rattle.walk.specs.declared.Round.{Round}
use Rattle.walk.proofs.SlotLaws.{fits_later, none_old}
use Rattle.walk.proofs.NewsLaws.{unrenewed_old}
use Rattle.walk.proofs.PairingLaws.{Pairing, pairing_marked, result_pairing, pairing_result, pairing_old}
use Rattle.walk.proofs.ProgressLaws.{tally_book, eventless_noted}
use Rattle.walk.proofs.PlaceLaws.{LentParts, RuleParts, walked_at, AtRule, Before, Place, place, Going, same, onward}

module _ {lore rules t₀ : List ℕ} {round : Round} {fresh : ℕ} {p : Place} (going : Going lore rules round fresh t₀ p) where
  abbrev Met : ℕ → ℕ → ℕ → ℕ → Outcome Piece → Type 0
  Met a b c x o = Pairing lore rules (book_of t₀ round.rows) a b c x o

  abbrev NotedHere : ℕ → Outcome Piece → Type 0
  NotedHere x o = Noted lore rules p.found.notes (tally_book p.table p.found) x o

  -- a rule that is walked for no nonterminal has no pairings, and is passed over
  pub rule_passed : {shares : List ℕ} → LentParts lore rules shares → get_or shares p.i 0 ≡ 0
      → Going lore rules round fresh t₀ (place (p.i + 1) 0 0 p.table p.found)
  rule_passed {shares = shares} lent none = onward going (p.i + 1) 0 0 at
    where
      here : (b c x : ℕ) (o : Outcome Piece) → Met p.i b c x o → ⊥
      here b c x o m =
          nothing_bit x (rw none at ((pairing_marked lent.in_range (lent.all_shares.each p.i m.is_rule) m).1))

      at : (a b c x : ℕ) (o : Outcome Piece) → Met a b c x o → Before (p.i + 1) 0 0 a b c
          → Before p.i p.j p.k a b c ⊎ NotedHere x o
      at a b c x o m (inl l) = ⊎_elim (λ g. inl (inl g)) (λ q. absurd (here b c x o (rw q at m))) (below_next a p.i l)
      at a b c x o m (inr (q, inl l)) = absurd (omega arith)
      at a b c x o m (inr (q, inr (d, l))) = absurd (omega arith)

  module _ {shares : List ℕ} (lent : LentParts lore rules shares) where
    -- a pairing of two old choices met no event
    old_noted : (a b c x : ℕ) (o : Outcome Piece) → Met a b c x o → b < new_from (left_slot rules a) round.prev round.first
        → c < new_from (right_slot rules a) round.prev round.first → NotedHere x o
    old_noted a b c x o m l l' = by round.first refl
      where
        begins : RoundBegins lore rules t₀ round
        begins = going.begun.begins

        by : (first : Bool) → round.first ≡ first → NotedHere x o
        by true q =
            absurd (none_old round.prev round.rows (left_slot rules a) b begins.older (begins.nothing_yet q) (rw q at l))
        by false q =
            eventless_noted lore rules p.found.notes (book_of t₀ round.rows) (tally_book p.table p.found) x o
            going.sofar.grown.more (same going)
            (begins.settled q x o
            (pairing_result lent.is_lore (book_of t₀ round.prev)
            (λ d h. going.begun.proper.proper d (omega (arith, begins.older))) (pairing_old round m l l')))

    -- after the last rule
    pub walk_end : length rules / 4 ≤ p.i → Walked lore rules (book_of t₀ round.rows) (Some p.found) p.table
    walk_end h = (
      going.sofar.grown,
      going.sofar.happened,
      λ x o r.
          let (a, b, c, m) =
          result_pairing lent.is_lore (book_of t₀ round.rows) going.begun.proper.proper lent.in_range lent.all_shares x o r in
          let l : a < p.i = omega (arith, m.is_rule) in
          going.sofar.seen x o (a, b, c, inl l, m),
    )

    -- ---- at a rule

    module _ {parts : RuleParts} (rule : AtRule rules round fresh p.i parts) where
      -- after the last right choice
      pub right_end : parts.rights ≤ p.k → Going lore rules round fresh t₀ (place p.i (p.j + 1) 0 p.table p.found)
      right_end h = onward going p.i (p.j + 1) 0 (λ a b c x o m l. inl (at a b c x o m l))
        where
          all : parts.rights ≡ choices (right_slot rules p.i) round.rows
          all = rw (← rule.right_is) rule.rights_is

          at : (a b c x : ℕ) (o : Outcome Piece) → Met a b c x o → Before p.i (p.j + 1) 0 a b c → Before p.i p.j p.k a b c
          at a b c x o m (inl l) = inl l
          at a b c x o m (inr (q, inl l)) =
              let g : c < choices (right_slot rules p.i) round.rows = rw q at m.is_right in
              inr (q, ⊎_elim (λ l. inl l) (λ d. inr (d, omega (arith, all, g))) (below_next b p.j l))
          at a b c x o m (inr (q, inr (d, l))) = absurd (omega arith)

      -- after the last left choice; there is none where the rule is not walked, and then its pairings are old
      pub left_end : parts.lefts ≤ p.j → p.k ≡ 0 → Going lore rules round fresh t₀ (place (p.i + 1) 0 0 p.table p.found)
      left_end h z = onward going (p.i + 1) 0 0 at
        where
          here : (walked : Bool) → walked_at round fresh parts ≡ walked → (b c x : ℕ) (o : Outcome Piece) → Met p.i b c x o
              → Before p.i p.j p.k p.i b c ⊎ NotedHere x o
          here true q b c x o m =
              let all : parts.lefts ≡ choices (left_slot rules p.i) round.rows = rw (q, rule.left_is) at rule.lefts_is in
              inl (inr (refl, inl (omega (arith, all, m.is_left))))
          here false q b c x o m =
              let none = rw (going.begun.fresh_is, rule.left_is, rule.right_is) at q in
              let (left, right) = or_parts (renews (left_slot rules p.i) (news t₀ round.prev round.rows) round.first) _ none in
              inr (old_noted p.i b c x o m
              (unrenewed_old t₀ (pieces lore).unit round.prev round.rows round.first (left_slot rules p.i) b m.form m.last left
              m.left)
              (unrenewed_old t₀ (pieces lore).unit round.prev round.rows round.first (right_slot rules p.i) c m.form' m.last'
              right m.right))

          at : (a b c x : ℕ) (o : Outcome Piece) → Met a b c x o → Before (p.i + 1) 0 0 a b c
              → Before p.i p.j p.k a b c ⊎ NotedHere x o
          at a b c x o m (inl l) =
              ⊎_elim (λ g. inl (inl g)) (λ q. rw q (here (walked_at round fresh parts) refl b c x o (rw q at m))) (below_next a p.i l)
          at a b c x o m (inr (q, inl l)) = absurd (omega arith)
          at a b c x o m (inr (q, inr (d, l))) = absurd (omega arith)

      -- the first left choice of a rule: where no right choice is new, those before it make old pairings
      pub left_start : p.j ≡ 0 → p.k ≡ 0 → (j : ℕ) → j ≡ left_from (ltb parts.new_right parts.rights) parts.new_left
          → Going lore rules round fresh t₀ (place p.i j 0 p.table p.found)
      left_start y z j d = onward going p.i j 0 at
        where
          passed : (some : Bool) → ltb parts.new_right parts.rights ≡ some → (b c x : ℕ) (o : Outcome Piece) → Met p.i b c x o
              → b < left_from some parts.new_left → NotedHere x o
          passed true q b c x o m l = absurd (omega arith)
          passed false q b c x o m l =
              let v : parts.rights ≤ parts.new_right = ltb-false parts.new_right parts.rights q in
              let w : c < choices parts.right round.rows = rw rule.right_is m.is_right in
              let u : c < parts.new_right = omega (arith, w, v, rule.rights_is) in
              old_noted p.i b c x o m (rw (← rule.left_is, ← rule.new_left) l) (rw (← rule.right_is, ← rule.new_right) u)

          at : (a b c x : ℕ) (o : Outcome Piece) → Met a b c x o → Before p.i j 0 a b c
              → Before p.i p.j p.k a b c ⊎ NotedHere x o
          at a b c x o m (inl l) = inl (inl l)
          at a b c x o m (inr (h, inl l)) =
              inr (passed (ltb parts.new_right parts.rights) refl b c x o (rw h at m) (rw (← d) l))
          at a b c x o m (inr (h, inr (v, l))) = absurd (omega arith)

      -- the first right choice of a left choice: those before it make no pairing, or an old one
      pub right_start : p.k ≡ 0 → (k : ℕ)
          → k ≡ right_from (slot_fits parts.left p.j p.table) (ltb p.j parts.new_left) parts.new_right parts.rights
          → Going lore rules round fresh t₀ (place p.i p.j k p.table p.found)
      right_start z k d = onward going p.i p.j k at
        where
          passed : (fits before : Bool) → slot_fits (left_slot rules p.i) p.j p.table ≡ fits → ltb p.j parts.new_left ≡ before
              → (c x : ℕ) (o : Outcome Piece) → Met p.i p.j c x o → c < right_from fits before parts.new_right parts.rights
              → NotedHere x o
          passed false before q u c x o m l =
              absurd (false≢true (sym q ∙ fits_later (pieces lore).unit t₀ p.table round.rows (same going) (left_slot rules p.i) p.j
              m.form m.last m.left))
          passed true true q u c x o m l =
              old_noted p.i p.j c x o m (rw (← rule.left_is, ← rule.new_left) (ltb-true p.j parts.new_left u))
              (rw (← rule.right_is, ← rule.new_right) l)
          passed true false q u c x o m l = absurd (omega arith)

          at : (a b c x : ℕ) (o : Outcome Piece) → Met a b c x o → Before p.i p.j k a b c
              → Before p.i p.j p.k a b c ⊎ NotedHere x o
          at a b c x o m (inl l) = inl (inl l)
          at a b c x o m (inr (e, inl l)) = inl (inr (e, inl l))
          at a b c x o m (inr (e, inr (h, l))) =
              inr (passed (slot_fits (left_slot rules p.i) p.j p.table) (ltb p.j parts.new_left) refl refl c x o (rw (e, h) at m)
              (rw (← rule.left_is, ← d) l))
