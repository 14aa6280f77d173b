-- One byte more (specs/Reads.antt): the tag that it spells is stepped, and what the step leads to under the limit tells whether the bytes
-- so far are readable still, or why they are refused. By cases on what the step leads to. Assumes nothing.
use mathlib.Core.Path.{◌≡◌, subst}
use mathlib.Core.List.{List, [], ◌∷◌, ◌++◌}
use Prim.Native.Nat.{ℕ}
use Rattle.words.specs.Tags.{Tag, Spells}
use Rattle.words.specs.Binoid.{Binoid, Laws}
use Rattle.words.specs.Reduced.{Stack}
use Rattle.words.specs.Reader.{Outcome, Limited, fits, differs, too_deep, step, limit}
use Rattle.words.proofs.ReadLaws.{Told, told_step}
use Rattle.words.proofs.LimitLaws.{Answers, limit_iff}
use Rattle.reader.specs.Reads.{Spelled, mismatch, too_many, Form, Refused, by_mismatch, by_depth, AllReadable}
use Rattle.reader.proofs.SpelledLaws.{spelled_next}
use Rattle.reader.proofs.ReadsLaws.{all_readable_next}

module _ (A : ℕ) (B : Binoid) (n : ℕ) where
  -- what an answer under the limit says of the bytes read
  abbrev pub AfterByte : List ℕ → Limited B.H → Type 0
  AfterByte bytes (fits s c) = AllReadable A B n bytes × Form A B n bytes s c
  AfterByte bytes (differs x y) = Refused A B n bytes mismatch
  AfterByte bytes too_deep = Refused A B n bytes too_many

  module _ (L : Laws B) where
    told_after : (u : List ℕ) (b : ℕ) {w : List Tag} → AllReadable A B n u → Spelled A (u ++ (b ∷ [])) w
        → (o : Outcome B.H) → Told B w o → (l : Limited B.H) → Answers n o l → AfterByte (u ++ (b ∷ [])) l
    told_after u b {w} r p o t (fits s c) (e, k) =
        let f : Form A B n (u ++ (b ∷ [])) s c = record { word = w; spelled = p; reduced = subst (λ o. Told B w o) e t } in
        (all_readable_next A B n u b r (record { tags_left = s; last_value = c; form = f; few = k }), f)
    told_after u b {w} r p o t (differs x y) e = by_mismatch p (subst (λ o. Told B w o) e t)
    told_after u b {w} r p o t too_deep (s, c, e, k) =
        by_depth (record { word = w; spelled = p; reduced = subst (λ o. Told B w o) e t }) k

    -- one tag more
    pub after_step : (u : List ℕ) (b : ℕ) {t : Tag} {s : Stack B.H} {c : B.H} → AllReadable A B n u → Form A B n u s c → Spells A b t
        → (l : Limited B.H) → limit B n (step B s c t) ≡ l → AfterByte (u ++ (b ∷ [])) l
    after_step u b {t} {s} {c} r f p l e =
        told_after u b r (spelled_next A f.spelled p) (step B s c t) (told_step B L f.reduced t) l
        ((limit_iff B n (step B s c t) l).0 e)
