-- The promises determine the replies. A form has one summary, since the arrays are decided by the form; a file is sound or bad at one
-- place; and what reading finds, or what joining gives, is one thing. So each promise is brought to the form: the file is bad, or the
-- reply answers that one thing. Assumes nothing.
use mathlib.Core.Path.{◌≡◌, refl, sym, ap, ◌∙◌, subst}
use mathlib.Core.List.{List}
use mathlib.Core.Logic.{◌⊎◌, inl, inr}
use Prim.Native.Nat.{ℕ, ◌≤◌, ◌<◌}
use native.Mathlib.Omega.{arith}
use lib.IntN.{ℤ}
use Rattle.std.specs.Prelude.{Result, Ok, Err}
use Rattle.words.specs.Reduced.{Stack, tags}
use Rattle.words.specs.Reader.{Outcome, reduced, differ}
use Rattle.pieces.specs.declared.Piece.{Piece}
use Rattle.pieces.specs.Pieces.{most_tags}
use Rattle.template.specs.Layout.{name_count}
use Rattle.template.specs.Order.{IsSound, Reading, reading, faulty, number}
use Rattle.form.proofs.PackLaws.{pack_unique}
use Rattle.reader.specs.Reads.{Found, whole, refused, no_tag, mismatch, too_many}
use Rattle.reader.proofs.ReadsLaws.{reads_unique}
use Rattle.form.specs.declared.Summary.{Summary}
use Rattle.summary.specs.declared.FragmentRefusal.{FragmentRefusal}
use Rattle.summary.specs.declared.FragmentRefusal.TheVariants as fragment
use Rattle.summary.specs.declared.JoinRefusal.{JoinRefusal}
use Rattle.summary.specs.declared.JoinRefusal.TheVariants as joined
use Rattle.summary.specs.declared.DepthRefusal.{DepthRefusal}
use Rattle.summary.specs.declared.DepthRefusal.TheVariants as depth
use Rattle.summary.specs.Replies.{FragmentReply, JoinReply}
use Rattle.summary.specs.Packing.{Packs, zeros}
use Rattle.schema.specs.Schemas.{binoid_of}
use Rattle.summary.specs.Fragments.{ReadUnder, FragmentAnswers, FragmentSays}
use Rattle.summary.specs.Joins.{SummaryUnder, outcome_of, JoinAnswers, JoinSays, DepthSays}
use Rattle.schema.proofs.SchemaLaws.{laws_of}
use Rattle.template.proofs.ShapeLaws.{sound_not_bad}

-- ---- one summary of a form, one place of a bad file

pub packs_unique : {s s' : Summary} {t : Stack Piece} {c : Piece} → Packs s t c → Packs s' t c → s ≡ s'
packs_unique {s} {s'} p q =
    pack_unique s s' p.holds q.holds (p.form_is ∙ sym q.form_is) (p.last_is ∙ sym q.last_is)

pub bad_unique : (f : List ℕ) (p q : ℕ) → reading f ≡ faulty p → reading f ≡ faulty q → p ≡ q
bad_unique f p q e d = ap (λ (r : Reading). number r) (sym e ∙ d)

-- ---- fragments

-- the reply's answer and summary are those of what reading found
abbrev pub AnswersFound : Found Piece → Result Unit FragmentRefusal → Summary → Type 0
AnswersFound (whole t c) a s = (a ≡ Ok tt) × Packs s t c
AnswersFound (refused no_tag i) a s = (a ≡ Err (fragment.NotATag i)) × (s ≡ zeros)
AnswersFound (refused mismatch i) a s = (a ≡ Err (fragment.Mismatch i)) × (s ≡ zeros)
AnswersFound (refused too_many i) a s = (a ≡ Err (fragment.TooDeep i)) × (s ≡ zeros)

found_unique : (found : Found Piece) (a a' : Result Unit FragmentRefusal) (s s' : Summary) → AnswersFound found a s → AnswersFound found a' s'
    → (a ≡ a') × (s ≡ s')
found_unique (whole t c) a a' s s' (e, p) (d, q) = (e ∙ sym d, packs_unique p q)
found_unique (refused no_tag i) a a' s s' (e, p) (d, q) = (e ∙ sym d, p ∙ sym q)
found_unique (refused mismatch i) a a' s s' (e, p) (d, q) = (e ∙ sym d, p ∙ sym q)
found_unique (refused too_many i) a a' s s' (e, p) (d, q) = (e ∙ sym d, p ∙ sym q)

module _ (f bytes : List ℕ) where
  abbrev pub FragmentCase : Result Unit FragmentRefusal → Summary → Type 0
  FragmentCase a s =
      ((p : ℕ) × (reading f ≡ faulty p) × (a ≡ Err (fragment.BadFile p)) × (s ≡ zeros))
      ⊎ (IsSound f × ((found : Found Piece) × ReadUnder f bytes found × AnswersFound found a s))

  pub fragment_case : (a : Result Unit FragmentRefusal) (s : Summary) → FragmentAnswers f bytes a s → FragmentCase a s
  fragment_case (Ok _) s (h, (t, c, r, p)) = inr (h, (whole t c, r, (refl, p)))
  fragment_case (Err (fragment.BadFile p)) s (e, z) = inl (p, e, refl, z)
  fragment_case (Err (fragment.NotATag i)) s (h, r, z) = inr (h, (refused no_tag i, r, (refl, z)))
  fragment_case (Err (fragment.Mismatch i)) s (h, r, z) = inr (h, (refused mismatch i, r, (refl, z)))
  fragment_case (Err (fragment.TooDeep i)) s (h, r, z) = inr (h, (refused too_many i, r, (refl, z)))

  fragment_case_unique : (a a' : Result Unit FragmentRefusal) (s s' : Summary) → FragmentCase a s → FragmentCase a' s' → (a ≡ a') × (s ≡ s')
  fragment_case_unique a a' s s' (inl (p, e, h, z)) (inl (q, d, k, y)) =
      (h ∙ ap (λ p. Err (fragment.BadFile p)) (bad_unique f p q e d) ∙ sym k, z ∙ sym y)
  fragment_case_unique a a' s s' (inl (p, e, h, z)) (inr (k, x)) = absurd (sound_not_bad f p k e)
  fragment_case_unique a a' s s' (inr (h, x)) (inl (p, e, k, z)) = absurd (sound_not_bad f p h e)
  fragment_case_unique a a' s s' (inr (h, (x, r, p))) (inr (k, (y, t, q))) =
      found_unique y a a' s s'
      (subst (λ z. AnswersFound z a s) (reads_unique (name_count f) (binoid_of f) most_tags (laws_of f h) r t) p) q

  pub fragment_unique : (r r' : FragmentReply) → FragmentSays f bytes r → FragmentSays f bytes r' → r ≡ r'
  fragment_unique r r' p q =
      let (e, d) = fragment_case_unique r.answer r'.answer r.summary r'.summary
      (fragment_case r.answer r.summary p) (fragment_case r'.answer r'.summary q) in
      λ i. record { answer = e i; summary = d i }

-- ---- joins

-- the reply's answer and summary are those of what joining gives
abbrev pub AnswersOutcome : Outcome Piece → Result Unit JoinRefusal → Summary → Type 0
AnswersOutcome (reduced t c) a s =
    ((tags t ≤ most_tags) × (a ≡ Ok tt) × Packs s t c) ⊎ ((most_tags < tags t) × (a ≡ Err joined.TooDeep) × (s ≡ zeros))
AnswersOutcome (differ x y) a s = (a ≡ Err joined.Mismatch) × (s ≡ zeros)

outcome_unique : (o : Outcome Piece) (a a' : Result Unit JoinRefusal) (s s' : Summary) → AnswersOutcome o a s → AnswersOutcome o a' s'
    → (a ≡ a') × (s ≡ s')
outcome_unique (reduced t c) a a' s s' (inl (l, e, p)) (inl (k, d, q)) = (e ∙ sym d, packs_unique p q)
outcome_unique (reduced t c) a a' s s' (inl (l, e, p)) (inr (k, d, q)) = absurd (omega arith)
outcome_unique (reduced t c) a a' s s' (inr (l, e, p)) (inl (k, d, q)) = absurd (omega arith)
outcome_unique (reduced t c) a a' s s' (inr (l, e, p)) (inr (k, d, q)) = (e ∙ sym d, p ∙ sym q)
outcome_unique (differ x y) a a' s s' (e, p) (d, q) = (e ∙ sym d, p ∙ sym q)

module _ (f : List ℕ) (left right : Summary) where
  abbrev NotBoth : Type 0
  NotBoth = SummaryUnder f left → SummaryUnder f right → ⊥

  abbrev JoinCase : Result Unit JoinRefusal → Summary → Type 0
  JoinCase a s =
      ((p : ℕ) × (reading f ≡ faulty p) × (a ≡ Err (joined.BadFile p)) × (s ≡ zeros))
      ⊎ (IsSound f
      × ((NotBoth × (a ≡ Err joined.NoSummary) × (s ≡ zeros))
      ⊎ (SummaryUnder f left × SummaryUnder f right × AnswersOutcome (outcome_of f left right) a s)))

  join_case : (a : Result Unit JoinRefusal) (s : Summary) → JoinAnswers f left right a s → JoinCase a s
  join_case (Ok _) s ((h, l, r), (t, c, e, k, p)) =
      inr (h, inr (l, r, subst (λ o. AnswersOutcome o (Ok tt) s) (sym e) (inl (k, refl, p))))
  join_case (Err (joined.BadFile p)) s (e, z) = inl (p, e, refl, z)
  join_case (Err joined.NoSummary) s (h, n, z) = inr (h, inl (n, refl, z))
  join_case (Err joined.Mismatch) s ((h, l, r), (a, b, e), z) =
      inr (h, inr (l, r, subst (λ o. AnswersOutcome o (Err joined.Mismatch) s) (sym e) (refl, z)))
  join_case (Err joined.TooDeep) s ((h, l, r), (t, c, e, k), z) =
      inr (h, inr (l, r, subst (λ o. AnswersOutcome o (Err joined.TooDeep) s) (sym e) (inr (k, refl, z))))

  join_case_unique : (a a' : Result Unit JoinRefusal) (s s' : Summary) → JoinCase a s → JoinCase a' s' → (a ≡ a') × (s ≡ s')
  join_case_unique a a' s s' (inl (p, e, h, z)) (inl (q, d, k, y)) =
      (h ∙ ap (λ p. Err (joined.BadFile p)) (bad_unique f p q e d) ∙ sym k, z ∙ sym y)
  join_case_unique a a' s s' (inl (p, e, h, z)) (inr (k, x)) = absurd (sound_not_bad f p k e)
  join_case_unique a a' s s' (inr (h, x)) (inl (p, e, k, z)) = absurd (sound_not_bad f p h e)
  join_case_unique a a' s s' (inr (h, inl (n, e, z))) (inr (k, inl (m, d, y))) = (e ∙ sym d, z ∙ sym y)
  join_case_unique a a' s s' (inr (h, inl (n, e, z))) (inr (k, inr (l, r, q))) = absurd (n l r)
  join_case_unique a a' s s' (inr (h, inr (l, r, p))) (inr (k, inl (n, d, y))) = absurd (n l r)
  join_case_unique a a' s s' (inr (h, inr (l, r, p))) (inr (k, inr (m, n, q))) = outcome_unique (outcome_of f left right) a a' s s' p q

  pub join_unique : (r r' : JoinReply) → JoinSays f left right r → JoinSays f left right r' → r ≡ r'
  join_unique r r' p q =
      let (e, d) = join_case_unique r.answer r'.answer r.summary r'.summary
      (join_case r.answer r.summary p) (join_case r'.answer r'.summary q) in
      λ i. record { answer = e i; summary = d i }

-- ---- net depths

pub depth_unique : (f : List ℕ) (s : Summary) (r r' : Result ℤ DepthRefusal) → DepthSays f s r → DepthSays f s r' → r ≡ r'
depth_unique f s (Ok z) (Ok y) (h, u, e) (k, v, d) = ap (λ z. Ok z) (e ∙ sym d)
depth_unique f s (Ok z) (Err (depth.BadFile p)) (h, u, e) d = absurd (sound_not_bad f p h d)
depth_unique f s (Ok z) (Err depth.NoSummary) (h, u, e) (k, n) = absurd (n u)
depth_unique f s (Err (depth.BadFile p)) (Ok z) e (h, u, d) = absurd (sound_not_bad f p h e)
depth_unique f s (Err (depth.BadFile p)) (Err (depth.BadFile q)) e d = ap (λ p. Err (depth.BadFile p)) (bad_unique f p q e d)
depth_unique f s (Err (depth.BadFile p)) (Err depth.NoSummary) e (h, n) = absurd (sound_not_bad f p h e)
depth_unique f s (Err depth.NoSummary) (Ok z) (h, n) (k, u, e) = absurd (n u)
depth_unique f s (Err depth.NoSummary) (Err (depth.BadFile p)) (h, n) e = absurd (sound_not_bad f p h e)
depth_unique f s (Err depth.NoSummary) (Err depth.NoSummary) (h, n) (k, m) = refl
