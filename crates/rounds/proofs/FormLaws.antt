-- A page's form, under the lore of a sound file: the two tests at a page's end say whether a word of this form is valid (crate schema), and
-- either they say so or not. Every file has a lore, whose entries are written down here one by one. Assumes nothing.
use mathlib.Core.Path.{◌≡◌, refl, ap, ◌∙◌}
use mathlib.Core.Bool.{Bool, cond}
use mathlib.Core.List.{List, [], ◌∷◌, ◌++◌}
use mathlib.Core.Logic.{◌↔◌}
use Prim.Native.Nat.{ℕ, zero, suc, ◌+◌, ◌-◌, ◌*◌, ◌/◌, ◌%◌, ◌<◌}
use native.Mathlib.Omega.{arith}
use lib.Dec.{eqb, ltb}
use lib.ListN.{length, get_or}
use lib.Seq.{get_or-append-add}
use borrow.Author.Tests.{lt-ltb, le-ltb}
use Rattle.std.specs.Prelude.{Result, Ok, Err}
use Rattle.numbers.specs.Bits.{number}
use Rattle.words.specs.Tags.{Tag, most_names}
use Rattle.words.specs.Balance.{Balanced}
use Rattle.words.specs.Reduced.{Stack, Reduced}
use Rattle.hedge.specs.Schema.{most_states, Valid}
use Rattle.hedge.specs.Operations.{relation, unit}
use Rattle.lore.specs.Lore.{lore_head, table_from, marked, meets, outer}
use Rattle.pieces.specs.declared.Piece.{Piece}
use Rattle.form.specs.Endings.{ending_of}
use Rattle.form.specs.declared.Flaw.{Flaw}
use Rattle.template.specs.Layout.{states, schema_rules, ending_states}
use Rattle.template.specs.Order.{IsSound}
use Rattle.schema.specs.Schemas.{schema_of, binoid_of, LoreOf}
use Rattle.schema.proofs.SchemaLaws.{ending_page}
use Rattle.walk.specs.Walks.{ValidForm}

page_decided : (e : Result Unit Flaw) → Dec (e ≡ Ok tt)
page_decided (Ok u) = yes refl
page_decided (Err f) = no (λ e. let z : ◌≡◌ {A = ℕ} 0 1 = cc e in omega (arith, z))

pub form_decided : (lore : List ℕ) (s : Stack Piece) (c : Piece) → Dec (ValidForm lore s c)
form_decided lore s c = page_decided (ending_of lore s c)

pub valid_balanced : (f : List ℕ) (w : List Tag) → Valid (schema_of f) w → Balanced w
valid_balanced f w v = v.0

pub valid_form : (f lore : List ℕ) → IsSound f → LoreOf f lore → (w : List Tag) (s : Stack Piece) (c : Piece) → Reduced (binoid_of f) w s c
    → Valid (schema_of f) w ↔ ValidForm lore s c
valid_form f lore sound taught w s c d =
    let (there, back) = ending_page f lore sound taught w s c d in
    (back, there)

-- ---- every file has a lore

-- the n values of g from k on
entries_from : (ℕ → ℕ) → ℕ → ℕ → List ℕ
entries_from g k zero = []
entries_from g k (suc n) = g k ∷ entries_from g (suc k) n

entries_length : (g : ℕ → ℕ) (k n : ℕ) → length (entries_from g k n) ≡ n
unfolding entries_from
entries_length g k zero = refl
entries_length g k (suc n) = ap suc (entries_length g (suc k) n)

entries_at : (g : ℕ → ℕ) (k n j : ℕ) → j < n → get_or (entries_from g k n) j 0 ≡ g (k + j)
unfolding entries_from
entries_at g k zero j h = absurd (omega arith)
entries_at g k (suc n) zero h = let e : k ≡ k + 0 = omega arith in ap g e
entries_at g k (suc n) (suc j) h =
    let e : suc k + j ≡ k + suc j = omega arith in
    entries_at g (suc k) n j (omega arith) ∙ ap g e

module _ (f : List ℕ) where
  abbrev marks : ℕ
  marks = number most_states (marked (ending_states f) (length (ending_states f)))

  abbrev empty : ℕ
  empty = unit most_states (states f)

  -- the outer pairs of the rules of a name whose inner state passes
  abbrev pairs : ℕ → (ℕ → Bool) → ℕ
  pairs a p = relation most_states (outer (schema_rules f) a p (length (schema_rules f) / 4))

  -- behind the head, the leaf of name k, then the entry of name k / 8 and inner state k % 8
  mask_at : ℕ → ℕ
  mask_at k = pairs (k / most_states) (λ v. eqb v (k % most_states))

  entry_at : ℕ → ℕ
  entry_at k = cond (ltb k most_names) (pairs k (meets most_states empty marks)) (mask_at (k - most_names))

  abbrev head_entries : List ℕ
  head_entries = states f ∷ marks ∷ empty ∷ 0 ∷ 0 ∷ 0 ∷ 0 ∷ 0 ∷ []

  abbrev entries_long : ℕ
  entries_long = most_names + most_names * most_states

  pub some_lore : List ℕ
  some_lore = head_entries ++ entries_from entry_at 0 entries_long

  entry_is : (j : ℕ) → j < entries_long → get_or some_lore (lore_head + j) 0 ≡ entry_at j
  unfolding some_lore
  entry_is j h =
      let e : 0 + j ≡ j = omega arith in
      get_or-append-add head_entries (entries_from entry_at 0 entries_long) j 0 ∙ entries_at entry_at 0 entries_long j h ∙ ap entry_at e

  mask_is : (a y : ℕ) → y < most_states → entry_at (most_names + (a * most_states + y)) ≡ pairs a (λ v. eqb v y)
  unfolding entry_at mask_at
  mask_is a y h =
      let j = a * most_states + y in
      let e : most_names + j - most_names ≡ j = omega arith in
      let d : j / most_states ≡ a = omega (arith, h) in
      let m : j % most_states ≡ y = omega (arith, h) in
      rw (le-ltb (most_names + j) most_names (omega arith), e, d, m)

  leaf_is : (a : ℕ) → a < most_names → entry_at a ≡ pairs a (meets most_states empty marks)
  unfolding entry_at
  leaf_is a h = rw (lt-ltb a most_names h)

  pub some_taught : LoreOf f some_lore
  unfolding some_lore
  some_taught = record {
    states = refl;
    endings = refl;
    empty = refl;
    masks = record {
      long = omega (arith, entries_length entry_at 0 entries_long);
      entries = λ a y ha hy.
          let e : table_from + (a * most_states + y) ≡ lore_head + (most_names + (a * most_states + y)) = omega arith in
          rw e (entry_is (most_names + (a * most_states + y)) (omega (arith, ha, hy)) ∙ mask_is a y hy);
    };
    leaves = record { leaves = λ a ha. entry_is a (omega arith) ∙ leaf_is a ha };
  }
