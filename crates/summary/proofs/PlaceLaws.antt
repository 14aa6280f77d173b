-- A summary by its form: the names and pieces at the places in use are those of the form's tags, so a struct that packs a form is a
-- summary when the form's names are below A and its pieces within the q states, and the form of a summary is such a form. Along the
-- tags, with a test of each place against the last. Assumes nothing.
use mathlib.Core.Path.{◌≡◌, subst, sym}
use mathlib.Core.Bool.{Bool, true, false}
use mathlib.Core.List.{List}
use Prim.Native.Nat.{ℕ, zero, suc, ◌≤◌, ◌<◌}
use native.Mathlib.Decide.{ℕ_discrete}
use native.Mathlib.Omega.{arith}
use lib.Dec.{ltb}
use lib.ListN.{get_or}
use Rattle.words.specs.Reduced.{Stack}
use Rattle.words.proofs.ReducedLaws.{GoodStack}
use Rattle.pieces.specs.declared.Piece.{Piece}
use Rattle.pieces.specs.Pieces.{piece_at, PieceWithin}
use Rattle.template.proofs.GrammarLaws.{TagBelow}
use Rattle.form.specs.Held.{tag_of, tag_at, stack_of, tag_count, form_of, last_of}
use Rattle.form.specs.declared.Summary.{Summary}
use Rattle.summary.specs.Packing.{Packs, IsSummary}
use Rattle.summary.proofs.NamedLaws.{FormBelow}

-- ---- names

tag_named : (A : ℕ) (closes : Bool) (a : ℕ) → TagBelow A (tag_of closes a) → a < A
tag_named A true a h = h
tag_named A false a h = h

named_tag : (A : ℕ) (closes : Bool) (a : ℕ) → a < A → TagBelow A (tag_of closes a)
named_tag A true a h = h
named_tag A false a h = h

module _ (A e : ℕ) (names values : List ℕ) where
  form_names : (n : ℕ) → FormBelow A (stack_of e names values n) → (k : ℕ) → k < n → get_or names k 0 < A
  unfolding stack_of tag_at
  form_names zero h k l = absurd (omega arith)
  form_names (suc n) (h, t) k l =
      elim (ℕ_discrete k n) [
        | yes d ↦ rw d (tag_named A (ltb n e) (get_or names n 0) t)
        | no d ↦ form_names n h k (omega arith)
      ]

  names_form : (n : ℕ) → ((k : ℕ) → k < n → get_or names k 0 < A) → FormBelow A (stack_of e names values n)
  unfolding stack_of tag_at
  names_form zero h = tt
  names_form (suc n) h = (names_form n (λ k l. h k (omega arith)), named_tag A (ltb n e) (get_or names n 0) (h n (omega arith)))

-- ---- pieces

module _ (G : Piece → Type 0) (e : ℕ) (names values : List ℕ) where
  form_values : (n : ℕ) → GoodStack G (stack_of e names values n) → G (piece_at values n) → (k : ℕ) → k ≤ n → G (piece_at values k)
  unfolding stack_of
  form_values zero h g k l = let d : k ≡ 0 = omega arith in subst (λ k. G (piece_at values k)) (sym d) g
  form_values (suc n) (h, m) g k l =
      elim (ℕ_discrete k (suc n)) [
        | yes d ↦ subst (λ k. G (piece_at values k)) (sym d) g
        | no d ↦ form_values n h m k (omega arith)
      ]

  values_form : (n : ℕ) → ((k : ℕ) → k ≤ n → G (piece_at values k)) → GoodStack G (stack_of e names values n)
  unfolding stack_of
  values_form zero h = tt
  values_form (suc n) h = (values_form n (λ k l. h k (omega arith)), h n (omega arith))

-- ---- summaries

module _ (A q : ℕ) (s : Summary) where
  pub packed_summary : {t : Stack Piece} {c : Piece} → Packs s t c → FormBelow A t → GoodStack (PieceWithin q) t → PieceWithin q c
      → IsSummary A q s
  packed_summary p n g h =
      record {
        few = p.holds.room;
        named =
            form_names A s.counts.ends s.names s.values (tag_count s.counts)
            (subst (λ t. FormBelow A t) (sym p.form_is) n);
        within =
            form_values (PieceWithin q) s.counts.ends s.names s.values (tag_count s.counts)
            (subst (λ t. GoodStack (PieceWithin q) t) (sym p.form_is) g) (subst (λ c. PieceWithin q c) (sym p.last_is) h);
        unused = p.holds.unused;
      }

  module _ (h : IsSummary A q s) where
    pub summary_below : FormBelow A (form_of s)
    summary_below = names_form A s.counts.ends s.names s.values (tag_count s.counts) h.named

    pub summary_good : GoodStack (PieceWithin q) (form_of s) × PieceWithin q (last_of s)
    summary_good = (
      values_form (PieceWithin q) s.counts.ends s.names s.values (tag_count s.counts) h.within,
      h.within (tag_count s.counts) (omega arith),
    )
