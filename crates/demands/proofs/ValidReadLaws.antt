-- A valid page as the page reader reads it (specs/Third.antt): 0, or 12 exactly where the page nests past 16. Its bytes spell it, so each
-- is a tag; no beginning of a balanced word is mismatched; and a beginning with more than 16 tags left is one with more than 16 elements
-- open (proofs/NestLaws.antt). At the end the word that was read is the page itself, which is valid. Assumes nothing.
use Rattle.std.specs.Prelude.{Ok, Err}
use mathlib.Core.Path.{◌≡◌, refl, sym, ap, ◌∙◌, subst}
use mathlib.Core.List.{List, [], ◌∷◌, ◌++◌, append_assoc}
use mathlib.Core.Logic.{◌↔◌, ◌⊎◌, inl, inr}
use Prim.Native.Nat.{ℕ, ◌≤◌}
use native.Mathlib.Omega.{arith}
use Rattle.words.specs.Tags.{Tag}
use Rattle.words.specs.Balance.{Balanced, Mismatched}
use Rattle.words.specs.Reduced.{tags}
use Rattle.words.proofs.BalanceLaws.{mismatched_append}
use Rattle.hedge.specs.Schema.{Valid}
use Rattle.pieces.specs.Pieces.{most_tags}
use Rattle.template.specs.Layout.{name_count}
use Rattle.template.specs.Order.{IsSound}
use Rattle.reader.specs.Reads.{Spelled, spelled_none, spelled_more, AllReadable, Reason, no_tag, mismatch, too_many, refused}
use Rattle.reader.proofs.SpelledLaws.{spelled_split, spelled_unique}
use Rattle.reader.proofs.FormLaws.{Because, refused_because, unspelled_word, form_of_word}
use Rattle.reader.proofs.ReadsLaws.{reads_finding}
use Rattle.schema.specs.Schemas.{schema_of, binoid_of}
use Rattle.summary.specs.Fragments.{ReadUnder}
use Rattle.schema.proofs.SchemaLaws.{laws_of}
use Rattle.template.proofs.ShapeLaws.{sound_not_bad}
use Rattle.words.proofs.MismatchLaws.{balanced_not_mismatched}
use Rattle.page.specs.Pages.{PageSays, answer as page_answer}
use Rattle.page.specs.Pages.{PageReply}
use Rattle.page.specs.declared.PageRefusal.TheVariants as page
use Rattle.demands.specs.Third.{NestsPast, ReadAsValid}
use Rattle.demands.proofs.Sides.{both, neither}
use Rattle.demands.proofs.NestLaws.{deep_nests, nests_deep}

-- the bytes of the two parts of a word
spelled_parts : (A : ℕ) {bytes : List ℕ} (x y : List Tag) → Spelled A bytes (x ++ y)
    → (u v : List ℕ) × (bytes ≡ u ++ v) × Spelled A u x
spelled_parts A {bytes} [] y p = ([], bytes, refl, spelled_none)
spelled_parts A (t ∷ x) y (spelled_more {b = b} s p) =
    let (u, v, e, q) = spelled_parts A x y p in (b ∷ u, v, ap (◌∷◌ b) e, spelled_more s q)

module _ (f : List ℕ) (sound : IsSound f) (w : List Tag) (balanced : Balanced w) (bytes : List ℕ)
    (spelled : Spelled (name_count f) bytes w) where
  -- ---- what may stop the reading

  -- a beginning of the page that is refused, its word, and why
  refused_beginning : (why : Reason) (i : ℕ) → ReadUnder f bytes (refused why i)
      → (u : List ℕ) × (x y : List Tag) × (w ≡ x ++ y) × Spelled (name_count f) u x × Because (name_count f) (binoid_of f) most_tags u why
  refused_beginning why i read =
      let (before, b, after, e, _, _, h) = reads_finding (name_count f) (binoid_of f) most_tags read in
      let split = e ∙ sym (append_assoc before (b ∷ []) after) in
      let parted = subst (λ (l : List ℕ). Spelled (name_count f) l w) split spelled in
      let (x, y, d, p, _) = spelled_split (name_count f) (before ++ (b ∷ [])) after parted in
      (before ++ (b ∷ []), x, y, d, p, refused_because (name_count f) (binoid_of f) most_tags h)

  always_tags : (i : ℕ) → ReadUnder f bytes (refused no_tag i) → ⊥
  always_tags i read =
      let (u, x, y, e, p, why) = refused_beginning no_tag i read in
      unspelled_word (name_count f) (binoid_of f) most_tags u why x p

  never_mismatched : (i : ℕ) → ReadUnder f bytes (refused mismatch i) → ⊥
  never_mismatched i read =
      let (u, x, y, e, p, (z, q, m)) = refused_beginning mismatch i read in
      let clash : Mismatched x = subst Mismatched (spelled_unique (name_count f) q p) m in
      balanced_not_mismatched (binoid_of f) (laws_of f sound) balanced (subst Mismatched (sym e) (mismatched_append y clash))

  deep_nested : (i : ℕ) → ReadUnder f bytes (refused too_many i) → NestsPast most_tags w
  deep_nested i read =
      let (u, x, y, e, p, (s, c, form, deep)) = refused_beginning too_many i read in
      let reduced = form_of_word (name_count f) (binoid_of f) most_tags (laws_of f sound) p form in
      (x, y, e, deep_nests (binoid_of f) (laws_of f sound) x y s c reduced most_tags (subst Balanced e balanced) deep)

  -- ---- where nothing stops it

  readable_shallow : AllReadable (name_count f) (binoid_of f) most_tags bytes → NestsPast most_tags w → ⊥
  readable_shallow all (x, y, e, nests) =
      let (u, v, d, p) = spelled_parts (name_count f) x y (subst (Spelled (name_count f) bytes) e spelled) in
      let r = all u v d in
      let reduced = form_of_word (name_count f) (binoid_of f) most_tags (laws_of f sound) p r.form in
      let few : tags r.tags_left ≤ most_tags = r.few in
      let deep = nests_deep (binoid_of f) reduced most_tags nests in
      omega (arith, few, deep)

-- ---- the reply

abbrev Judged : List Tag → ℕ → Type 0
Judged w a = ((a ≡ 0) ⊎ (a ≡ 12)) × ((a ≡ 12) ↔ NestsPast most_tags w)

pub valid_read : (f : List ℕ) → IsSound f → (w : List Tag) → Valid (schema_of f) w → ReadAsValid f w
valid_read f sound w valid bytes spelled = from
  where
    same : {z : List Tag} → Spelled (name_count f) bytes z → z ≡ w
    same p = spelled_unique (name_count f) p spelled

    from : (r : PageReply) → PageSays f bytes r → Judged w (page_answer r)
    from (Ok tt) (_, all, _) =
        (inl refl, neither (λ e. omega (arith, e)) (readable_shallow f sound w valid.0 bytes spelled all))
    from (Err (page.BadFile i)) e = absurd (sound_not_bad f i sound e)
    from (Err (page.NotATag i)) (_, read) = absurd (always_tags f sound w valid.0 bytes spelled i read)
    from (Err (page.Mismatch i)) (_, read) = absurd (never_mismatched f sound w valid.0 bytes spelled i read)
    from (Err (page.TooDeep i)) (_, read) = (inr refl, both refl (deep_nested f sound w valid.0 bytes spelled i read))
    from (Err page.Unmatched) (_, _, (z, p, none)) = absurd (none (subst Balanced (sym (same p)) valid.0))
    from (Err page.NotDerived) (_, _, (z, p, (_, none))) = absurd (none (rw (same p) valid))
