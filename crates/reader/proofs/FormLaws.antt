-- The form of a run of bytes, and the reasons to refuse one (specs/Reads.antt): one form, one reason, never both. Bytes spell one word,
-- and a word has one reduced form or is mismatched; so each goes by the word. Assumes nothing.
use mathlib.Core.Path.{◌≡◌, refl, subst}
use mathlib.Core.List.{List, [], ◌∷◌, ◌++◌}
use Prim.Native.Nat.{ℕ, ◌<◌}
use native.Mathlib.Omega.{arith}
use Rattle.words.specs.Tags.{Tag}
use Rattle.words.specs.Balance.{Mismatched}
use Rattle.words.specs.Binoid.{Binoid, Laws, value_empty}
use Rattle.words.specs.Reduced.{Stack, bottom, tags, Reduced, whole}
use Rattle.words.proofs.ReadLaws.{reduced_unique}
use Rattle.words.proofs.MismatchLaws.{never_both}
use Rattle.reader.specs.Reads.{Spelled, spelled_none, Reason, no_tag, mismatch, too_many}
use Rattle.reader.specs.Reads.{Form, Readable, Refused, by_no_tag, by_mismatch, by_depth}
use Rattle.reader.proofs.SpelledLaws.{Unspelled, spelled_at, spelled_unique}

module _ (A : ℕ) (B : Binoid) (n : ℕ) where
  -- what each reason says

  abbrev pub Because : List ℕ → Reason → Type 0
  Because bytes no_tag = (u : List ℕ) × (b : ℕ) × (bytes ≡ u ++ (b ∷ [])) × Unspelled A b
  Because bytes mismatch = (w : List Tag) × Spelled A bytes w × Mismatched w
  Because bytes too_many = (s : Stack B.H) × (c : B.H) × Form A B n bytes s c × (n < tags s)

  pub refused_because : {bytes : List ℕ} {why : Reason} → Refused A B n bytes why → Because bytes why
  refused_because (by_no_tag u b f) = (u, b, refl, f)
  refused_because (by_mismatch {w = w} p m) = (w, p, m)
  refused_because (by_depth {s = s} {c = c} f l) = (s, c, f, l)

  -- the empty word

  pub form_empty : Form A B n [] bottom B.unit
  form_empty = record { word = []; spelled = spelled_none; reduced = whole value_empty }

  -- a byte that spells no tag

  pub unspelled_formless : (u : List ℕ) (b : ℕ) (v : List ℕ) {s : Stack B.H} {c : B.H} → Unspelled A b
      → Form A B n (u ++ (b ∷ v)) s c → ⊥
  unspelled_formless u b v f p = let (t, r) = spelled_at A u b v p.spelled in f t r

  pub unspelled_word : (bytes : List ℕ) → Because bytes no_tag → (w : List Tag) → Spelled A bytes w → ⊥
  unspelled_word bytes (u, b, e, f) w p = let (t, r) = spelled_at A u b [] (subst (λ x. Spelled A x w) e p) in f t r

  module _ (L : Laws B) where
    -- one form, and no refusal

    pub form_of_word : {bytes : List ℕ} {w : List Tag} {s : Stack B.H} {c : B.H} → Spelled A bytes w → Form A B n bytes s c
        → Reduced B w s c
    form_of_word {s = s} {c = c} p f = subst (λ w. Reduced B w s c) (spelled_unique A f.spelled p) f.reduced

    pub form_unique : {bytes : List ℕ} {s r : Stack B.H} {c d : B.H} → Form A B n bytes s c → Form A B n bytes r d
        → (s ≡ r) × (c ≡ d)
    form_unique f g = reduced_unique B L (form_of_word g.spelled f) g.reduced

    pub form_unmismatched : {bytes : List ℕ} {w : List Tag} {s : Stack B.H} {c : B.H} → Form A B n bytes s c → Spelled A bytes w
        → Mismatched w → ⊥
    form_unmismatched f p m = never_both B L (form_of_word p f) m

    -- a readable run is not refused

    readable_because : (bytes : List ℕ) (why : Reason) → Readable A B n bytes → Because bytes why → ⊥
    readable_because bytes no_tag r (u, b, e, f) =
        unspelled_formless u b [] f (subst (λ x. Form A B n x r.tags_left r.last_value) e r.form)
    readable_because bytes mismatch r (w, p, m) = form_unmismatched r.form p m
    readable_because bytes too_many r (s, c, f, l) =
        let h : n < tags r.tags_left = subst (λ s. n < tags s) (form_unique f r.form).0 l in
        let k = r.few in
        omega arith

    pub readable_unrefused : {bytes : List ℕ} {why : Reason} → Readable A B n bytes → Refused A B n bytes why → ⊥
    readable_unrefused {bytes} {why} r f = readable_because bytes why r (refused_because f)

    -- one reason

    mismatch_shallow : (bytes : List ℕ) → Because bytes mismatch → Because bytes too_many → ⊥
    mismatch_shallow bytes (w, p, m) (s, c, f, l) = form_unmismatched f p m

    because_unique : (bytes : List ℕ) (why reason : Reason) → Because bytes why → Because bytes reason → why ≡ reason
    because_unique bytes no_tag no_tag f g = refl
    because_unique bytes mismatch mismatch f g = refl
    because_unique bytes too_many too_many f g = refl
    because_unique bytes no_tag mismatch f (w, p, m) = absurd (unspelled_word bytes f w p)
    because_unique bytes no_tag too_many f (s, c, p, l) = absurd (unspelled_word bytes f p.word p.spelled)
    because_unique bytes mismatch no_tag (w, p, m) g = absurd (unspelled_word bytes g w p)
    because_unique bytes mismatch too_many f g = absurd (mismatch_shallow bytes f g)
    because_unique bytes too_many no_tag (s, c, p, l) g = absurd (unspelled_word bytes g p.word p.spelled)
    because_unique bytes too_many mismatch f g = absurd (mismatch_shallow bytes g f)

    pub refused_unique : {bytes : List ℕ} {why reason : Reason} → Refused A B n bytes why → Refused A B n bytes reason → why ≡ reason
    refused_unique {bytes} {why} {reason} f g = because_unique bytes why reason (refused_because f) (refused_because g)
