-- A whole form more on the arrays (specs/Steps.antt), tag by tag: `turned` is what stands after k of its tags, counted from the state
-- after its first piece. One tag of the code with its word leads from k tags to k + 1, a refusal stays a refusal to the end, and after all tags it is
-- the join. Since the arrays hold ends before starts, the limit at each tag says the same as the limit at the end. Assumes nothing.
use mathlib.Core.Path.{◌≡◌, refl, sym, ap, ◌∙◌}
use mathlib.Core.List.{List}
use Prim.Native.Nat.{ℕ, zero, suc, ◌+◌, ◌-◌, ◌≤◌, ◌<◌}
use native.Mathlib.Nat.{zero-add, suc-add}
use native.Mathlib.Numerals.{add-one}
use native.Mathlib.Omega.{arith}
use lib.Dec.{ltb}
use lib.ListN.{get_or}
use borrow.Author.Rules.{rules}
use Rattle.std.specs.Prelude.{Result, Ok, Err}
use Rattle.words.specs.Reader.{reduced, Limited, limit, join, then_tag_within, then_value_within, join_within}
use Rattle.words.proofs.LimitLaws.{join_within_limit}
use Rattle.pieces.specs.declared.Piece.{Piece}
use Rattle.pieces.specs.Pieces.{most_tags, piece_at, put_piece, pieces}
use Rattle.form.specs.Held.{tag_of, tag_at, stack_of, tag_count, summary_of, form_of, last_of, Holds}
use Rattle.form.specs.Steps.{held, outcome, Stepped, after_tag, after_form}
use Rattle.form.specs.declared.Counts.{Counts}
use Rattle.form.specs.declared.Summary.{Summary}
use Rattle.form.specs.declared.Clash.{Clash}
use Rattle.form.proofs.HeldLaws.{tags_held, ends_first_held}
use Rattle.form.proofs.TurnLaws.{stepped_held, kept_holds, held_value, holds_more}
use Rattle.form.proofs.TurnLaws.{refused_says, refused_value, refused_tag}

module _ (lore : List ℕ) where
  -- what stands after k tags of a form whose first e are ends, each with the piece after it
  unfoldable pub turned : Limited Piece → ℕ → List ℕ → List ℕ → ℕ → Limited Piece
  turned o e names values zero = o
  turned o e names values (suc k) =
      then_value_within (pieces lore)
      (then_tag_within (pieces lore) most_tags (turned o e names values k) (tag_at e names k)) (piece_at values (suc k))

  module _ (o : Limited Piece) (e : ℕ) (names values : List ℕ) where
    pub turned_none : o ≡ turned o e names values 0
    unfolding turned
    turned_none = refl

    -- after all tags it is the join
    pub turned_join : (n : ℕ) → join_within (pieces lore) most_tags o (stack_of e names values n) (piece_at values n)
        ≡ turned (then_value_within (pieces lore) o (piece_at values 0)) e names values n
    unfolding turned join_within stack_of
    turned_join zero = refl
    turned_join (suc n) = rw (turned_join n)

    -- a refusal stays

    turned_later : (clash : Clash) (names' values' : List ℕ) (k d : ℕ) → outcome (Err clash) names' values' ≡ turned o e names values k
        → outcome (Err clash) names' values' ≡ turned o e names values (d + k)
    unfolding turned
    turned_later clash names' values' k zero p = rw zero-add p
    turned_later clash names' values' k (suc d) p =
        rw (
          suc-add,
          ← (turned_later clash names' values' k d p),
          refused_tag lore clash names' values' most_tags (tag_at e names (d + k)),
          refused_value lore clash names' values' (piece_at values (suc (d + k))),
        )

    pub turned_refused : (clash : Clash) (names' values' : List ℕ) (k n : ℕ) → k ≤ n
        → outcome (Err clash) names' values' ≡ turned o e names values k
        → outcome (Err clash) names' values' ≡ turned o e names values n
    turned_refused clash names' values' k n l p =
        let z : n - k + k ≡ n = omega arith in rw z at (turned_later clash names' values' k (n - k) p)

    -- one tag of the code, after k tags, and its word
    module _ (c : Counts) (k : ℕ) (names₁ values₁ : List ℕ) (r : Result Counts Clash) (names₂ values₂ : List ℕ)
        (told : Stepped r names₂ values₂ (after_tag lore (summary_of c names₁ values₁) (tag_of (ltb k e) (get_or names k 0))))
        (sofar : held (summary_of c names₁ values₁) ≡ turned o e names values k) where
      tag_next : outcome r names₂ values₂ ≡ then_tag_within (pieces lore) most_tags (turned o e names values k) (tag_at e names k)
      unfolding after_tag then_tag_within tag_at
      tag_next = rw (← sofar) told.says

      pub turned_kept : (d : Counts) → r ≡ Ok d → (v : Piece) → v ≡ piece_at values (k + 1) → (values₃ : List ℕ)
          → values₃ ≡ put_piece values₂ (tag_count d) ((pieces lore).compose (piece_at values₂ (tag_count d)) v)
          → held (summary_of d names₂ values₃) ≡ turned o e names values (k + 1)
      unfolding outcome turned
      turned_kept d p v part values₃ added =
          held_value lore d v names₂ values₂ values₃ (kept_holds r names₂ values₂ _ d told p) added
          ∙ rw (part, add-one k) (ap (λ o. then_value_within (pieces lore) o (piece_at values (suc k))) (rw p at tag_next))

      pub turned_stopped : (clash : Clash) → r ≡ Err clash → outcome (Err clash) names₂ values₂ ≡ turned o e names values (k + 1)
      unfolding turned
      turned_stopped clash p =
          sym (refused_value lore clash names₂ values₂ (piece_at values (suc k)))
          ∙ rw (add-one k) (ap (λ o. then_value_within (pieces lore) o (piece_at values (suc k))) (rw p at tag_next))

  -- the limit at each tag is the limit at the end
  pub form_limit : (s more : Summary) → tag_count s.counts ≤ most_tags → after_form lore s more
      ≡ limit (pieces lore) most_tags (join (pieces lore) (reduced (form_of s) (last_of s)) (form_of more) (last_of more))
  unfolding after_form
  form_limit s more l =
      let e = s.counts.ends in
      let n = tag_count s.counts in
      join_within_limit (pieces lore) most_tags (form_of s) (last_of s) (ends_first_held e n s.names s.values)
      (omega (arith, tags_held e n s.names s.values)) (form_of more) (last_of more)
      (ends_first_held more.counts.ends (tag_count more.counts) more.names more.values)

  -- the whole form, from the state after its first piece
  module _ (s more : Summary) (first : List ℕ) (whole : Holds s) (v : Piece) (part : v ≡ piece_at more.values 0)
      (added : first ≡ put_piece s.values (tag_count s.counts) ((pieces lore).compose (last_of s) v)) where
    -- after k tags of the form
    abbrev after : ℕ → Limited Piece
    after k = turned (held (summary_of s.counts s.names first)) more.counts.ends more.names more.values k

    form_turned : after_form lore s more ≡ after (tag_count more.counts)
    unfolding after_form
    form_turned =
        turned_join (held s) more.counts.ends more.names more.values (tag_count more.counts)
        ∙ ap (λ o. turned o more.counts.ends more.names more.values (tag_count more.counts))
        (rw (← part) (sym (held_value lore s.counts v s.names s.values first whole added)))

    pub form_end : (d : Counts) (k : ℕ) (names values : List ℕ) → held (summary_of d names values) ≡ after k
        → k ≤ tag_count more.counts → tag_count more.counts ≤ k → Holds (summary_of d names values)
        → Stepped (Ok d) names values (after_form lore s more)
    form_end d k names values i l l' h =
        let z : k ≡ tag_count more.counts = omega arith in
        stepped_held d names values (after_form lore s more) h (rw z at i ∙ sym form_turned)

    pub form_refused : (d : Counts) (k : ℕ) (names values : List ℕ) (r : Result Counts Clash) (names' values' : List ℕ)
        → held (summary_of d names values) ≡ after k → k < tag_count more.counts
        → Stepped r names' values' (after_tag lore (summary_of d names values) (tag_of (ltb k more.counts.ends) (get_or more.names k 0)))
        → (clash : Clash) → r ≡ Err clash → Stepped (Err clash) names' values' (after_form lore s more)
    form_refused d k names values r names' values' i l h clash p =
        let o = held (summary_of s.counts s.names first) in
        let e = more.counts.ends in
        refused_says clash names' values' names' values' (after_form lore s more)
        (turned_refused o e more.names more.values clash names' values' (k + 1) (tag_count more.counts) (omega arith)
        (turned_stopped o e more.names more.values d k names values r names' values' h i clash p) ∙ sym form_turned)

pub ruleset form_laws = (kept_holds, holds_more, turned_none, turned_kept, form_end, form_refused, rules)
