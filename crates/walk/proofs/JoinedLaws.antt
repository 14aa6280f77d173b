-- One pair of choices more in the walk (VisitLaws.antt): where the two choices have forms, their join is an outcome of every nonterminal that
-- is marked for the rule, and it is noted or a mismatch (OutcomeLaws.antt); where one has none there is no pairing. So the walk stands at
-- the next right choice, or it stops at a mismatch. Assumes nothing.
use mathlib.Core.Path.{◌≡◌, refl}
use mathlib.Core.Bool.{true}
use mathlib.Core.List.{List}
use mathlib.Core.Logic.{◌⊎◌, inl, inr, ⊎_elim, ◌↔◌}
use Prim.Native.Nat.{ℕ, ◌+◌, ◌<◌}
use Rattle.std.specs.Prelude.{Option, Some, None}
use Rattle.words.specs.Reduced.{Stack}
use Rattle.words.specs.Reader.{Outcome, reduced, join}
use Rattle.numbers.specs.Bits.{bit}
use Rattle.pieces.specs.declared.Piece.{Piece}
use Rattle.pieces.specs.Pieces.{pieces}
use Rattle.pairs.specs.declared.Tally.{Tally}
use Rattle.pairs.specs.Books.{book_of}
use Rattle.pairs.specs.Slots.{left_slot, right_slot, Choice, choices}
use Rattle.pairs.specs.Turns.{FormOf, Turned, no_forms, joined}
use Rattle.pairs.specs.declared.Slot.{Slot}
use Rattle.shares.proofs.ShareLaws.{below_next}
use Rattle.walk.specs.Walks.{ResultOver, Walked}
use Rattle.walk.specs.declared.Round.{Round}
use Rattle.walk.proofs.SlotLaws.{form_later}
use Rattle.walk.proofs.PairingLaws.{Pairing, pairing_marked, pairing_result, pairing_proper, pairing_unique}
use Rattle.walk.proofs.OutcomeLaws.{Next, outcome_next}
use Rattle.walk.proofs.PlaceLaws.{LentParts, RuleParts, AtRule, Before, Place, place, Visited, Going, same, onward}

-- one pair more: the walk goes on, or it stops at a mismatch
abbrev pub AfterTurn : List ℕ → List ℕ → Round → ℕ → List ℕ → Place → Option Tally → List ℕ → Type 0
AfterTurn lore rules round fresh t₀ p (Some found) t = Going lore rules round fresh t₀ (place p.i p.j (p.k + 1) t found)
AfterTurn lore rules round fresh t₀ p None t = Walked lore rules (book_of t₀ round.rows) None t

-- before (i, j, k + 1): before (i, j, k), or there
by_place : (i j k a b c : ℕ) → Before i j (k + 1) a b c → Before i j k a b c ⊎ ((a ≡ i) × (b ≡ j) × (c ≡ k))
by_place i j k a b c (inl l) = inl (inl l)
by_place i j k a b c (inr (d, inl l)) = inl (inr (d, inl l))
by_place i j k a b c (inr (d, inr (h, l))) = ⊎_elim (λ g. inl (inr (d, inr (h, g)))) (λ g. inr (d, h, g)) (below_next c k l)

module _ {lore rules shares t₀ : List ℕ} {round : Round} {fresh : ℕ} {p : Place} (going : Going lore rules round fresh t₀ p)
    (lent : LentParts lore rules shares) {parts : RuleParts} (rule : AtRule rules round fresh p.i parts) (walked : 0 < parts.marks)
    (is_left : p.j < choices (left_slot rules p.i) round.rows) (is_right : p.k < choices (right_slot rules p.i) round.rows) where
  abbrev Here : ℕ → Outcome Piece → Type 0
  Here x o = Pairing lore rules (book_of t₀ round.rows) p.i p.j p.k x o

  -- a form in the table as it is now is a choice in the table at the start
  form_there : (slot : Slot) (h : ℕ) (s : Stack Piece) (c : Piece) → h < choices slot round.rows
      → FormOf (pieces lore).unit p.table slot h s c ↔ Choice (pieces lore).unit (book_of t₀ round.rows) slot h s c
  form_there = form_later (pieces lore).unit t₀ p.table round.rows (same going)

  -- where the walk stands after the outcome of every marked nonterminal
  after_outcome : (o : Outcome Piece) → ((x : ℕ) → x < 64 → bit parts.marks x ≡ true → Here x o) → (r : Option Tally) (t : List ℕ)
      → Next lore rules (ResultOver lore rules (book_of t₀ round.rows)) (Visited lore rules t₀ round p.i p.j p.k)
      (book_of t₀ round.rows) parts.marks o r t
      → AfterTurn lore rules round fresh t₀ p r t
  after_outcome o pairing (Some found) t w =
      record {
        begun = going.begun;
        sofar = record {
          grown = w.grown;
          happened = w.happened;
          seen = λ y q (a, b, c, l, m). w.seen y q
              (⊎_elim (λ h. inl (a, b, c, h, m)) (λ (d, e, f). inr (here y q (rw (d, e, f) at m)))
              (by_place p.i p.j p.k a b c l));
        };
      }
    where
      here : (y : ℕ) (q : Outcome Piece) → Here y q → (y < 64) × (bit parts.marks y ≡ true) × (q ≡ o)
      here y q m =
          let (small, marked) = pairing_marked lent.in_range rule.sharing m in
          (small, marked, pairing_unique m (pairing y small marked))
  after_outcome o pairing None t w = w

  pub joined_next : (r : Option Tally) (t : List ℕ)
      → Turned lore p.table (record { left = left_slot rules p.i; j = p.j; right = right_slot rules p.i; k = p.k }) parts.marks
      p.found r t
      → AfterTurn lore rules round fresh t₀ p r t
  joined_next r t (no_forms f) =
      onward going p.i p.j (p.k + 1)
      (λ a b c y o m l.
      ⊎_elim (λ h. inl h) (λ (d, e, g). absurd (none y o (rw (d, e, g) at m))) (by_place p.i p.j p.k a b c l))
    where
      none : (y : ℕ) (o : Outcome Piece) → Here y o → ⊥
      none y o m =
          f m.form m.last m.form' m.last' ((form_there (left_slot rules p.i) p.j m.form m.last is_left).1 m.left)
          ((form_there (right_slot rules p.i) p.k m.form' m.last' is_right).1 m.right)
  joined_next r t (joined s c u d r'' t'' a b w) =
      let book = book_of t₀ round.rows in
      let proper = going.begun.proper.proper in
      after_outcome o pairing r'' t''
      (outcome_next going.sofar parts.marks o (λ x h w. pairing_result lent.is_lore book proper (pairing x h w))
      (rule.sharing.some walked) (λ s c e x h w. pairing_proper lent.is_lore book proper (pairing x h w) s c e) r'' t'' w)
    where
      o : Outcome Piece
      o = join (pieces lore) (reduced s c) u d

      pairing : (x : ℕ) → x < 64 → bit parts.marks x ≡ true → Here x o
      pairing x h w =
          let (is-useful, is_first, shares) = (rule.sharing.shared x h).0 w in
          record {
            is_rule = rule.is_rule;
            is_first = is_first;
            shares = shares;
            useful = is-useful;
            is_left = is_left;
            is_right = is_right;
            form = s;
            last = c;
            form' = u;
            last' = d;
            left = (form_there (left_slot rules p.i) p.j s c is_left).0 a;
            right = (form_there (right_slot rules p.i) p.k u d is_right).0 b;
            joins = refl;
          }
