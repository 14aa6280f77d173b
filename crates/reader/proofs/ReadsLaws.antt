-- What reading finds (specs/Reads.antt) is one thing only. Every beginning of a readable run is readable; so of two refusals of one run
-- neither comes before the other, and a run that is readable throughout has none. Assumes nothing.
use mathlib.Core.Path.{◌≡◌, refl, sym, ap, ap₂, ◌∙◌, subst}
use mathlib.Core.List.{List, [], ◌∷◌, ◌++◌, append_assoc, append-nil}
use mathlib.Core.Logic.{◌⊎◌, inl, inr}
use Prim.Native.Nat.{ℕ}
use native.Mathlib.Omega.{arith}
use lib.ListN.{length}
use Rattle.words.specs.Binoid.{Binoid, Laws}
use Rattle.words.specs.Reduced.{bottom, tags}
use Rattle.reader.specs.Reads.{Reason, Found, whole, refused, Form, Readable, Refused, AllReadable, Reads, reads_all, reads_to}
use Rattle.reader.proofs.SplitLaws.{append_empty, last_split, Places, two_splits}
use Rattle.reader.proofs.FormLaws.{form_empty, form_unique, readable_unrefused, refused_unique}

module _ (A : ℕ) (B : Binoid) (n : ℕ) where
  -- beginnings

  pub readable_whole : {bytes : List ℕ} → AllReadable A B n bytes → Readable A B n bytes
  readable_whole {bytes} r = r bytes [] (sym (append-nil bytes))

  readable_none : Readable A B n []
  unfolding tags
  readable_none = record { tags_left = bottom; last_value = B.unit; form = form_empty A B n; few = omega arith }

  pub all_readable_none : AllReadable A B n []
  all_readable_none x y e = subst (λ x. Readable A B n x) (sym (append_empty x y e).0) readable_none

  pub all_readable_next : (u : List ℕ) (b : ℕ) → AllReadable A B n u → Readable A B n (u ++ (b ∷ [])) → AllReadable A B n (u ++ (b ∷ []))
  all_readable_next u b r f x y e = from (last_split u b x y e)
    where
      from : ((x ≡ u ++ (b ∷ [])) × (y ≡ [])) ⊎ ((z : List ℕ) × (u ≡ x ++ z)) → Readable A B n x
      from (inl (p, q)) = subst (λ x. Readable A B n x) (sym p) f
      from (inr (z, p)) = r x z p

  -- what a finding says

  abbrev pub Finding : List ℕ → Found B.H → Type 0
  Finding bytes (whole s c) = AllReadable A B n bytes × Form A B n bytes s c
  Finding bytes (refused why i) =
      (before : List ℕ) × (b : ℕ) × (after : List ℕ) × (bytes ≡ before ++ (b ∷ after)) × (i ≡ length before)
      × AllReadable A B n before × Refused A B n (before ++ (b ∷ [])) why

  pub reads_finding : {bytes : List ℕ} {p : Found B.H} → Reads A B n bytes p → Finding bytes p
  reads_finding (reads_all r f) = (r, f)
  reads_finding (reads_to before b after r f) = (before, b, after, refl, refl, r, f)

  module _ (L : Laws B) where
    -- nothing refused stands in a readable run
    pub all_readable_unrefused : (bytes before : List ℕ) (b : ℕ) (after : List ℕ) {why : Reason} → AllReadable A B n bytes
        → bytes ≡ before ++ (b ∷ after) → Refused A B n (before ++ (b ∷ [])) why → ⊥
    all_readable_unrefused bytes before b after r e f =
        readable_unrefused A B n L (r (before ++ (b ∷ [])) after (e ∙ sym (append_assoc before (b ∷ []) after))) f

    same_refusal : (why reason : Reason) (before : List ℕ) (b : ℕ) (after before' : List ℕ) (b' : ℕ) (after' : List ℕ)
        → AllReadable A B n before → Refused A B n (before ++ (b ∷ [])) why
        → AllReadable A B n before' → Refused A B n (before' ++ (b' ∷ [])) reason
        → Places before b after before' b' after'
        → ◌≡◌ {A = Found B.H} (refused why (length before)) (refused reason (length before'))
    same_refusal why reason before b after before' b' after' r f r' f' (inl (e, k, l)) =
        let g : Refused A B n (before ++ (b ∷ [])) reason = rw (e, k) f' in
        ap₂ refused (refused_unique A B n L f g) (ap length e)
    same_refusal why reason before b after before' b' after' r f r' f' (inr (inl (z, e))) =
        absurd (all_readable_unrefused before' before b z r' e f)
    same_refusal why reason before b after before' b' after' r f r' f' (inr (inr (z, e))) =
        absurd (all_readable_unrefused before before' b' z r e f')

    finding_unique : (bytes : List ℕ) (p q : Found B.H) → Finding bytes p → Finding bytes q → p ≡ q
    finding_unique bytes (whole s c) (whole r d) (h, f) (k, g) = let (e, i) = form_unique A B n L f g in ap₂ whole e i
    finding_unique bytes (whole s c) (refused why i) (r, f) (before, b, after, e, k, h, g) =
        absurd (all_readable_unrefused bytes before b after r e g)
    finding_unique bytes (refused why i) (whole s c) (before, b, after, e, k, h, g) (r, f) =
        absurd (all_readable_unrefused bytes before b after r e g)
    finding_unique bytes (refused why i) (refused reason j) (before, b, after, e, k, h, g) (before', b', after', e', k', h', g') =
        rw (k, k') (same_refusal why reason before b after before' b' after' h g h' g'
        (two_splits before b after before' b' after' (sym e ∙ e')))

    pub reads_unique : {bytes : List ℕ} {p q : Found B.H} → Reads A B n bytes p → Reads A B n bytes q → p ≡ q
    reads_unique {bytes} {p} {q} r t = finding_unique bytes p q (reads_finding r) (reads_finding t)
