-- One outcome more in the walk (pairs/specs/Turns.antt, ProgressLaws.antt), for every marked nonterminal: a mismatch is an outcome of R; one
-- that is too deep is noted; a form is noted for each marked nonterminal in turn (NotedLaws.antt). Assumes nothing.
use mathlib.Core.Path.{◌≡◌, refl, sym, ◌∙◌}
use mathlib.Core.Bool.{true, false≢true}
use mathlib.Core.List.{List}
use mathlib.Core.Logic.{◌⊎◌, inl, inr, ⊎_elim}
use Prim.Native.Nat.{ℕ, suc, ◌≤◌, ◌<◌}
use native.Mathlib.Omega.{arith}
use lib.ListN.{length, drop}
use Rattle.std.specs.Prelude.{Option, Some, None}
use Rattle.words.specs.Reduced.{Stack, tags}
use Rattle.words.specs.Reader.{Outcome, reduced, differ}
use Rattle.numbers.specs.Bits.{bit}
use Rattle.std.proofs.lemmas.Bool.{or_cases, or_parts}
use Rattle.pieces.specs.declared.Piece.{Piece}
use Rattle.pieces.specs.Pieces.{most_tags}
use Rattle.worktable.specs.Packed.{table_long}
use Rattle.pairs.specs.Books.{Book}
use Rattle.pairs.specs.Turns.{after_deep}
use Rattle.pairs.specs.Turns.{FormsNoted, forms_none, forms_other, forms_more, OutcomeNoted, mismatches, is_deep, is_form}
use Rattle.pairs.specs.declared.Tally.{Tally}
use Rattle.shares.proofs.ShareLaws.{below_next}
use Rattle.walk.specs.Walks.{ProperPair, Noted}
use Rattle.walk.proofs.ValidLaws.{deep_invalid}
use Rattle.walk.proofs.ProgressLaws.{tally_book, noted_later, Sofar, sofar_seen}
use Rattle.walk.proofs.NotedLaws.{Also, pair_next}

-- the outcomes seen, and that of the marked nonterminals below k
abbrev pub AlsoAll : (ℕ → Outcome Piece → Type 0) → ℕ → Outcome Piece → ℕ → ℕ → Outcome Piece → Type 0
AlsoAll Seen marks o k y q = Seen y q ⊎ ((y < k) × (bit marks y ≡ true) × (q ≡ o))

-- what holds after a turn: the walk goes on, or it stops at an outcome of R
abbrev pub Next : List ℕ → List ℕ → (ℕ → Outcome Piece → Type 0) → (ℕ → Outcome Piece → Type 0) → Book → ℕ → Outcome Piece → Option Tally → List ℕ
    → Type 0
Next lore rules R Seen b marks o (Some found) t = Sofar lore rules R (AlsoAll Seen marks o 64) b t found
Next lore rules R Seen b marks o None t =
    (length t ≡ length b.table) × (drop table_long t ≡ drop table_long b.table) × ((x a c : ℕ) × R x (differ a c))

module _ {lore rules : List ℕ} {R Seen : ℕ → Outcome Piece → Type 0} {b : Book} {t : List ℕ} {found : Tally}
    (sofar : Sofar lore rules R Seen b t found) (marks : ℕ) (o : Outcome Piece)
    (is-result : (x : ℕ) → x < 64 → bit marks x ≡ true → R x o) (some : (x : ℕ) × (x < 64) × (bit marks x ≡ true)) where
  -- more than 16 tags
  deep_next : (s : Stack Piece) (c : Piece) → o ≡ reduced s c → most_tags < tags s
      → Sofar lore rules R (AlsoAll Seen marks o 64) b t (record { rows = found.rows; notes = after_deep marks found.notes })
  deep_next s c e l =
      record {
        grown = sofar.grown;
        happened = record {
          invalid_page = λ f.
              ⊎_elim sofar.happened.invalid_page (λ z. (s, c, rw e at (is-result 0 (omega arith) z), deep_invalid lore s c l))
              (or_cases found.notes.invalid _ f);
          too_deep = λ f. let (x, h, w) = some in (x, s, c, rw e at (is-result x h w), l);
          past_room = sofar.happened.past_room;
        };
        seen = noted;
      }
    where
      noted : (y : ℕ) (q : Outcome Piece) → AlsoAll Seen marks o 64 y q
          → Noted lore rules (after_deep marks found.notes) (tally_book t found) y q
      noted y q (inl v) =
          noted_later
          (record {
            invalid_stays = λ f. (or_parts found.notes.invalid (bit marks 0) f).0;
            deep_stays = λ f. refl;
            crowded_stays = λ f. f;
            rows_stay = λ p w. w;
          })
          (sofar.seen y q v)
      noted y q (inr (h, w, d)) =
          record {
            form = s;
            last = c;
            reduces = d ∙ e;
            deep_noted = λ h. refl;
            stands = λ h. absurd (omega arith);
            valid = λ z f. absurd (false≢true (sym (or_parts found.notes.invalid (bit marks 0) f).1 ∙ (rw z at w)));
          }

  -- a form of at most 16 tags
  module _ (s : Stack Piece) (c : Piece) (e : o ≡ reduced s c) (l : tags s ≤ most_tags)
      (proper : (x : ℕ) → x < 64 → bit marks x ≡ true → ProperPair lore rules (record { of = x; form = s; last = c })) where
    forms_next : (k : ℕ) (r : Tally) (t' : List ℕ) → k ≤ 64 → FormsNoted lore marks s c t found k r t'
        → Sofar lore rules R (AlsoAll Seen marks o k) b t' r
    forms_next k r t' h forms_none =
        sofar_seen sofar (λ y q v. ⊎_elim (sofar.seen y q) (λ (g, _, _). absurd (omega (arith, g))) v)
    forms_next k r t' h (forms_other {x = x} w off) =
        let so = forms_next x r t' (omega arith) w in
        sofar_seen so (λ y q v. so.seen y q (⊎_elim (λ a. inl a) (λ (g, d, f). before y q g d f) v))
      where
        before : (y : ℕ) (q : Outcome Piece) → y < suc x → bit marks y ≡ true → q ≡ o → AlsoAll Seen marks o x y q
        before y q g d f =
            ⊎_elim (λ a. inr (a, d, f)) (λ a. absurd (false≢true (sym off ∙ (rw a at d)))) (below_next y x (omega arith))
    forms_next k r t'' h (forms_more {x = x} {r = r'} {t' = t'} w on noted) =
        let after =
        pair_next (forms_next x r' t' (omega arith) w) (record { of = x; form = s; last = c })
        (rw e at (is-result x (omega arith) on)) l (proper x (omega arith) on) r t'' noted in
        sofar_seen after (λ y q v. after.seen y q (⊎_elim (λ a. inl (inl a)) (λ (g, d, f). before y q g d f) v))
      where
        before : (y : ℕ) (q : Outcome Piece) → y < suc x → bit marks y ≡ true → q ≡ o
            → Also (AlsoAll Seen marks o x) x (reduced s c) y q
        before y q g d f = ⊎_elim (λ a. inl (inr (a, d, f))) (λ a. inr (a, f ∙ e)) (below_next y x (omega arith))

  pub outcome_next : ((s : Stack Piece) (c : Piece) → o ≡ reduced s c → (x : ℕ) → x < 64 → bit marks x ≡ true
      → ProperPair lore rules (record { of = x; form = s; last = c }))
      → (r : Option Tally) (t' : List ℕ) → OutcomeNoted lore marks o t found r t' → Next lore rules R Seen b marks o r t'
  outcome_next proper r t' (mismatches a d e) =
      let (x, h, w) = some in
      (sofar.grown.same_length, sofar.grown.same_rest, (x, a, d, rw e at (is-result x h w)))
  outcome_next proper r t' (is_deep s c e l) = deep_next s c e l
  outcome_next proper r t' (is_form s c r'' t'' e l w) = forms_next s c e l (proper s c e) 64 r'' t'' (omega arith) w
