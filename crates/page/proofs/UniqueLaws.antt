-- The promise of a page's reply determines it. A file is sound or bad at one place, and what reading finds is one thing; so a reply is
-- brought to the form: the file is bad, or the reply answers that one thing. Where nothing is refused the bytes spell one word, of which
-- one of the three endings is so. Assumes nothing.
use mathlib.Core.Path.{◌≡◌, refl, sym, ap, ◌∙◌, subst}
use mathlib.Core.List.{List}
use mathlib.Core.Logic.{◌↔◌, ◌⊎◌, inl, inr}
use Prim.Native.Nat.{ℕ}
use Rattle.std.specs.Prelude.{Result, Ok, Err}
use Rattle.words.specs.Tags.{Tag}
use Rattle.hedge.specs.Schema.{Valid}
use Rattle.pieces.specs.declared.Piece.{Piece}
use Rattle.pieces.specs.Pieces.{most_tags}
use Rattle.template.specs.Layout.{name_count}
use Rattle.template.specs.Order.{IsSound, reading, faulty}
use Rattle.form.specs.declared.Flaw.{Flaw}
use Rattle.form.specs.declared.Flaw.TheVariants as flaw
use Rattle.reader.specs.Reads.{Found, whole, refused, no_tag, mismatch, too_many, Spelled, reads_all}
use Rattle.reader.proofs.SpelledLaws.{spelled_unique}
use Rattle.reader.proofs.ReadsLaws.{readable_whole, reads_unique}
use Rattle.schema.specs.Schemas.{schema_of, binoid_of}
use Rattle.summary.specs.Fragments.{ReadUnder}
use Rattle.schema.proofs.SchemaLaws.{laws_of, Means, means_unique}
use Rattle.template.proofs.ShapeLaws.{sound_not_bad}
use Rattle.summary.proofs.UniqueLaws.{bad_unique}
use Rattle.page.specs.declared.PageRefusal.{PageRefusal}
use Rattle.page.specs.declared.PageRefusal.TheVariants as page
use Rattle.page.specs.Pages.{PageSays, ReadWhole, tested}

-- ---- one ending of a word

-- the reply is that of an ending that is so of the word
abbrev pub EndSays : List ℕ → List Tag → Result Unit PageRefusal → Type 0
EndSays f w p = (e : Result Unit Flaw) × Means f w e × (p ≡ tested e)

end_unique : (f : List ℕ) (w : List Tag) (p q : Result Unit PageRefusal) → EndSays f w p → EndSays f w q → p ≡ q
end_unique f w p q (e, m, h) (d, n, k) = h ∙ ap tested (means_unique f w e d m n) ∙ sym k

module _ (f bytes : List ℕ) where
  -- ---- the reply is that of what reading found

  abbrev pub PageFound : Found Piece → Result Unit PageRefusal → Type 0
  PageFound (whole t c) p = (w : List Tag) × Spelled (name_count f) bytes w × EndSays f w p
  PageFound (refused no_tag i) p = p ≡ Err (page.NotATag i)
  PageFound (refused mismatch i) p = p ≡ Err (page.Mismatch i)
  PageFound (refused too_many i) p = p ≡ Err (page.TooDeep i)

  page_found_unique : (found : Found Piece) (p q : Result Unit PageRefusal) → PageFound found p → PageFound found q → p ≡ q
  page_found_unique (whole t c) p q (w, spelled, e) (z, spelled', d) =
      end_unique f z p q (subst (λ w. EndSays f w p) (spelled_unique (name_count f) spelled spelled') e) d
  page_found_unique (refused no_tag i) p q e d = e ∙ sym d
  page_found_unique (refused mismatch i) p q e d = e ∙ sym d
  page_found_unique (refused too_many i) p q e d = e ∙ sym d

  abbrev pub PageCase : Result Unit PageRefusal → Type 0
  PageCase p =
      ((i : ℕ) × (reading f ≡ faulty i) × (p ≡ Err (page.BadFile i)))
      ⊎ (IsSound f × ((found : Found Piece) × ReadUnder f bytes found × PageFound found p))

  end_case : (p : Result Unit PageRefusal) → ReadWhole f bytes (λ w. EndSays f w p) → PageCase p
  end_case p (sound, all, ended) =
      let r = readable_whole (name_count f) (binoid_of f) most_tags all in
      inr (sound, (whole r.tags_left r.last_value, reads_all all r.form, ended))

  pub page_case : (p : Result Unit PageRefusal) → PageSays f bytes p → PageCase p
  page_case (Ok _) (sound, all, (w, spelled, v)) = end_case (Ok tt) (sound, all, (w, spelled, (Ok tt, v, refl)))
  page_case (Err (page.BadFile i)) e = inl (i, e, refl)
  page_case (Err (page.NotATag i)) (sound, r) = inr (sound, (refused no_tag i, r, refl))
  page_case (Err (page.Mismatch i)) (sound, r) = inr (sound, (refused mismatch i, r, refl))
  page_case (Err (page.TooDeep i)) (sound, r) = inr (sound, (refused too_many i, r, refl))
  page_case (Err page.Unmatched) (sound, all, (w, spelled, n)) = end_case (Err page.Unmatched) (sound, all, (w, spelled, (Err flaw.Unmatched, n, refl)))
  page_case (Err page.NotDerived) (sound, all, (w, spelled, n)) = end_case (Err page.NotDerived) (sound, all, (w, spelled, (Err flaw.NotDerived, n, refl)))

  -- ---- one reply

  page_case_unique : (p q : Result Unit PageRefusal) → PageCase p → PageCase q → p ≡ q
  page_case_unique p q (inl (i, e, h)) (inl (j, d, k)) = h ∙ ap (λ i. Err (page.BadFile i)) (bad_unique f i j e d) ∙ sym k
  page_case_unique p q (inl (i, e, h)) (inr (sound, x)) = absurd (sound_not_bad f i sound e)
  page_case_unique p q (inr (sound, x)) (inl (i, e, h)) = absurd (sound_not_bad f i sound e)
  page_case_unique p q (inr (sound, (x, r, h))) (inr (_, (y, t, k))) =
      page_found_unique y p q (subst (λ z. PageFound z p) (reads_unique (name_count f) (binoid_of f) most_tags (laws_of f sound) r t) h) k

  pub page_unique : (p q : Result Unit PageRefusal) → PageSays f bytes p → PageSays f bytes q → p ≡ q
  page_unique p q h k = page_case_unique p q (page_case p h) (page_case q k)

  -- a reply is given exactly where it is promised; so a page is valid exactly when its bytes are read and spell a valid word
  pub page_iff : (p q : Result Unit PageRefusal) → PageSays f bytes p → (p ≡ q) ↔ PageSays f bytes q
  page_iff p q h = (λ e. subst (λ p. PageSays f bytes p) e h, page_unique p q h)

  pub page_valid : (p : Result Unit PageRefusal) → PageSays f bytes p → (p ≡ Ok tt) ↔ ReadWhole f bytes (λ w. Valid (schema_of f) w)
  page_valid p h = page_iff p (Ok tt) h
