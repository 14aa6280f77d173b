-- What a step of the arrays says (specs/Steps.antt) by its variant, and a balanced word more. A step that is kept says what the arrays
-- hold, and the word's piece goes into their last place; a refusal says the same whatever they hold, and nothing after it changes it.
-- Assumes nothing.
use mathlib.Core.Path.{◌≡◌, refl, sym, ap₂, ◌∙◌}
use mathlib.Core.Bool.{Bool, true, false, false≢true, ◌&&◌}
use mathlib.Core.List.{List}
use Prim.Native.Nat.{ℕ, ◌+◌, ◌≤◌, ◌<◌}
use native.Mathlib.Omega.{arith}
use lib.Dec.{ltb}
use borrow.Author.Tests.{ltb-true, ltb-false}
use Rattle.std.specs.Prelude.{Result, Ok, Err}
use Rattle.words.specs.Tags.{Tag}
use Rattle.words.specs.Reader.{Limited, fits, differs, too_deep, then_tag_within, then_value_within}
use Rattle.pieces.specs.declared.Piece.{Piece}
use Rattle.pieces.specs.Pieces.{piece_at, put_piece, pieces, Counted}
use Rattle.pieces.proofs.PieceLaws.{piece_same, put_length, put_counted, counted_compose}
use Rattle.form.specs.Held.{tag_count, summary_of, Holds}
use Rattle.form.specs.Steps.{held, outcome, Stepped}
use Rattle.form.specs.declared.Counts.{Counts}
use Rattle.form.specs.declared.Clash.{Clash}
use Rattle.form.specs.declared.Clash.TheVariants.{Mismatch, TooDeep}
use Rattle.form.proofs.HeldLaws.{stack_value, unused_value}

-- what a step says

pub stepped_held : (c : Counts) (names values : List ℕ) (o : Limited Piece) → Holds (summary_of c names values)
    → held (summary_of c names values) ≡ o → Stepped (Ok c) names values o
unfolding outcome
stepped_held c names values o h p = record { says = p; holds = h }

pub stepped_differs : (a b : ℕ) (names values : List ℕ) (o : Limited Piece) → o ≡ differs a b → Stepped (Err (Mismatch a b)) names values o
unfolding outcome
stepped_differs a b names values o p = record { says = sym p; holds = tt }

pub stepped_deep : (names values : List ℕ) (o : Limited Piece) → o ≡ too_deep → Stepped (Err TooDeep) names values o
unfolding outcome
stepped_deep names values o p = record { says = sym p; holds = tt }

-- a step that is kept
pub kept_holds : (r : Result Counts Clash) (names values : List ℕ) (o : Limited Piece) (c : Counts) → Stepped r names values o
    → r ≡ Ok c → Holds (summary_of c names values)
kept_holds r names values o c h p = rw p at h.holds

-- a step that is refused

-- as the code tells it: any case but `Ok`
abbrev pub IsRefused : Result Counts Clash → Type 0
IsRefused r = (c : Counts) → r ≡ Ok c → ⊥

pub differs_refused : (a b : ℕ) → IsRefused (Err (Mismatch a b))
differs_refused a b c e = cc

pub deep_refused : IsRefused (Err TooDeep)
deep_refused c e = cc

-- it says the same whatever the arrays hold

pub refused_says : (e : Clash) (names values names' values' : List ℕ) (o : Limited Piece) → outcome (Err e) names values ≡ o
    → Stepped (Err e) names' values' o
unfolding outcome
refused_says (Mismatch a b) names values names' values' o p = record { says = p; holds = tt }
refused_says TooDeep names values names' values' o p = record { says = p; holds = tt }

module _ (lore : List ℕ) where
  pub refused_value : (e : Clash) (names values : List ℕ) (v : Piece)
      → then_value_within (pieces lore) (outcome (Err e) names values) v ≡ outcome (Err e) names values
  unfolding outcome then_value_within
  refused_value (Mismatch a b) names values v = refl
  refused_value TooDeep names values v = refl

  pub refused_tag : (e : Clash) (names values : List ℕ) (n : ℕ) (t : Tag)
      → then_tag_within (pieces lore) n (outcome (Err e) names values) t ≡ outcome (Err e) names values
  unfolding outcome then_tag_within
  refused_tag (Mismatch a b) names values n t = refl
  refused_tag TooDeep names values n t = refl

  -- a balanced word more
  pub held_value : (c : Counts) (v : Piece) (names values values' : List ℕ) → Holds (summary_of c names values)
      → values' ≡ put_piece values (tag_count c) ((pieces lore).compose (piece_at values (tag_count c)) v)
      → held (summary_of c names values') ≡ then_value_within (pieces lore) (held (summary_of c names values)) v
  unfolding then_value_within
  held_value c v names values values' h p =
      let w : Piece = (pieces lore).compose (piece_at values (tag_count c)) v in
      rw p
      (ap₂ fits (stack_value c.ends (tag_count c) w names values) (piece_same values (tag_count c) w h.values_long h.room))

pub holds_value : (c : Counts) (v : Piece) (names values values' : List ℕ) → values' ≡ put_piece values (tag_count c) v
    → Holds (summary_of c names values) → Counted v → Holds (summary_of c names values')
holds_value c v names values values' p h few =
    rw p record {
      names_long = h.names_long;
      values_long = put_length values (tag_count c) v ∙ h.values_long;
      room = h.room;
      unused = unused_value (tag_count c) v names values h.unused;
      counted = put_counted values (tag_count c) v h.values_long h.room h.counted few;
    }

pub holds_more : (lore : List ℕ) (c : Counts) (p v : Piece) (names values values' : List ℕ)
    → values' ≡ put_piece values (tag_count c) ((pieces lore).compose p v) → Holds (summary_of c names values)
    → Holds (summary_of c names values')
holds_more lore c p v names values values' e h =
    holds_value c ((pieces lore).compose p v) names values values' e h (counted_compose lore p v)

-- how many tags then stand

module _ (d : Counts) (e n : ℕ) where
  pub one_start : d ≡ record { ends = e; starts = n + 1 } → tag_count d ≡ e + n + 1
  one_start p = rw p (omega arith)

  pub one_end : n ≤ 0 → d ≡ record { ends = e + 1; starts = 0 } → tag_count d ≡ e + n + 1
  one_end z p = rw p (omega arith)

-- where it is tested at once that the tag is an end and meets a start

module _ (n : ℕ) where
  pub meets_start : (closes : Bool) → (closes && ltb 0 n) ≡ true → (closes ≡ true) × (0 < n)
  meets_start true t = (refl, ltb-true 0 n t)
  meets_start false t = absurd (false≢true t)

  pub meets_none : (closes : Bool) → closes ≡ true → (closes && ltb 0 n) ≡ false → n ≤ 0
  meets_none closes e t = ltb-false 0 n (rw e at t)
