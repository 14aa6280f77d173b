-- After a pass every page that the template set can produce is valid (specs/Third.antt). That no image is new says of each image only that
-- it cannot have been missing in the round before; as the images are finitely many rows, it cannot be that any of them was missing. So it
-- cannot be that the page is invalid (trees/proofs/VerdictLaws.antt), and whether a word is valid is decided. Assumes nothing.
use mathlib.Core.Path.{◌≡◌, refl, subst}
use mathlib.Core.List.Memᴰ
use mathlib.Core.List.{List, [], ◌∷◌, Memᴰ}
use mathlib.Core.Logic.{◌⊎◌, inl, inr, ⊎_elim}
use Prim.Native.Nat.{ℕ, pred}
use Rattle.words.specs.Tags.{Tag}
use Rattle.words.specs.Balance.{Mismatched}
use Rattle.words.specs.Reduced.{Stack, Reduced}
use Rattle.words.proofs.MismatchLaws.{one_of, balanced_not_mismatched}
use Rattle.hedge.specs.Schema.{Valid}
use Rattle.pieces.specs.declared.Piece.{Piece}
use Rattle.pieces.specs.Pieces.{most_tags}
use Rattle.template.specs.Order.{IsSound}
use Rattle.schema.specs.Schemas.{schema_of, binoid_of}
use Rattle.schema.proofs.SchemaLaws.{laws_of, PageForm, form_decided, valid_form, valid_decided}
use Rattle.trees.specs.Events.{Pair}
use Rattle.trees.specs.Verdict.{Decides, passed}
use Rattle.trees.proofs.VerdictLaws.{pass_valid}
use Rattle.worktable.specs.Packed.{most_images, PairRow}
use Rattle.rounds.specs.Checks.{RuleOf, ImageOf, EventOf, NewOf, Rows}
use Rattle.rounds.proofs.ListedLaws.{row_one_pair}
use Rattle.demands.specs.Third.{Produces}

-- ---- what cannot fail

-- what cannot fail of any member of a list cannot fail of all of them
all_unfailing : {A : Type 0} (P : A → Type 0) (xs : List A) → ((x : A) → Memᴰ x xs → (P x → ⊥) → ⊥)
    → (((x : A) → Memᴰ x xs → P x) → ⊥) → ⊥
all_unfailing P [] each fails = fails (λ x m. absurd (Memᴰ.not-nil m))
all_unfailing {A} P (y ∷ ys) each fails =
    each y (Memᴰ.head refl) (λ here.
    all_unfailing P ys (λ x m. each x (Memᴰ.tail m)) (λ behind.
    fails (λ x m. ⊎_elim (λ (e : x ≡ y). rw e here) (behind x) (Memᴰ.cases_cons m))))

-- ---- valid or not

module _ (f : List ℕ) (sound : IsSound f) where
  either : (w : List Tag) → Dec (Valid (schema_of f) w)
  either w = from (one_of (binoid_of f) (laws_of f sound) w)
    where
      from : ((s : Stack Piece) × (c : Piece) × Reduced (binoid_of f) w s c) ⊎ Mismatched w → Dec (Valid (schema_of f) w)
      from (inl (s, c, form)) = valid_decided f sound w s c form
      from (inr m) = no (λ valid. balanced_not_mismatched (binoid_of f) (laws_of f sound) valid.0 m)

  -- ---- the round that passed

  module _ (budget r : ℕ) (decides : Decides (EventOf f) (NewOf f) budget (passed r)) (rows : List (List ℕ)) (made : Rows f r rows) where
    -- the row's image was there the round before
    abbrev ImagedBefore : List ℕ → Type 0
    ImagedBefore row = (p : Pair Piece) × ImageOf f (pred r) p × PairRow row p

    each_before : (row : List ℕ) → Memᴰ row rows → (ImagedBefore row → ⊥) → ⊥
    each_before row m fails =
        let (_, _, _, _, none) = decides in
        let (p, i, c) = made.each_image row m in
        none (record { image = p; here = i; not_before = λ j. fails (p, j, c) })

    all_before : ((row : List ℕ) → Memᴰ row rows → ImagedBefore row) → (p : Pair Piece) → ImageOf f r p → ImageOf f (pred r) p
    all_before before p i =
        let (row, m, c) = made.every_image p i in
        let (q, j, d) = before row m in
        subst (ImageOf f (pred r)) (row_one_pair row q p d c) j

    pub passed_valid : (w : List Tag) → Produces f w → Valid (schema_of f) w
    passed_valid w (n, tree) = from (either w)
      where
        from : Dec (Valid (schema_of f) w) → Valid (schema_of f) w
        from (yes v) = v
        from (no v) =
            let (low, _, _, quiet, _) = decides in
            absurd (all_unfailing ImagedBefore rows each_before (λ before.
            v (pass_valid (RuleOf f) (binoid_of f) (Valid (schema_of f)) most_tags most_images (laws_of f sound) (PageForm f)
            (valid_form f sound) (form_decided f) r low quiet (all_before before) tree).0))
