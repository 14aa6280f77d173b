-- What the summaries mean. The summary of a word under a file packs the word's reduced form; a fragment's summary is that of the word
-- that its bytes spell; and the summaries of two words join to that of the two in a row, or the join says exactly why there is none:
-- the join of two forms is the form of the two words in a row (words/proofs/JoinLaws.antt), and a word has one form or is mismatched.
-- Every summary that is made is a summary under the file. Assumes nothing.
use mathlib.Core.Path.{◌≡◌, refl, subst}
use mathlib.Core.List.{List, ◌++◌}
use mathlib.Core.Logic.{◌↔◌}
use Prim.Native.Nat.{ℕ, ◌≤◌, ◌<◌}
use native.Mathlib.Omega.{arith}
use Rattle.std.specs.Prelude.{Result, Ok, Err}
use Rattle.words.specs.Tags.{Tag}
use Rattle.words.specs.Balance.{Mismatched}
use Rattle.words.specs.Reduced.{Stack, tags, Reduced}
use Rattle.words.proofs.ReducedLaws.{reduced_good}
use Rattle.words.proofs.ReadLaws.{reduced_unique}
use Rattle.words.proofs.MismatchLaws.{never_both}
use Rattle.words.proofs.JoinLaws.{join_good, join_reduced, join_differ}
use Rattle.pieces.specs.declared.Piece.{Piece}
use Rattle.pieces.specs.Pieces.{most_tags}
use Rattle.template.specs.Layout.{name_count, states}
use Rattle.template.specs.Order.{IsSound}
use Rattle.reader.specs.Reads.{Spelled}
use Rattle.reader.proofs.ReadsLaws.{reads_finding}
use Rattle.reader.proofs.SpelledLaws.{spelled_append}
use Rattle.form.specs.Held.{form_of, last_of}
use Rattle.form.specs.declared.Summary.{Summary}
use Rattle.summary.specs.declared.JoinRefusal.{JoinRefusal}
use Rattle.summary.specs.declared.JoinRefusal.TheVariants.{BadFile, NoSummary, Mismatch, TooDeep}
use Rattle.summary.specs.Replies.{FragmentReply, JoinReply}
use Rattle.summary.specs.Packing.{Packs}
use Rattle.schema.specs.Schemas.{binoid_of}
use Rattle.summary.specs.Words.{SummaryOf}
use Rattle.summary.specs.Fragments.{FragmentAnswers, FragmentSays}
use Rattle.summary.specs.Joins.{SummaryUnder, JoinAnswers, JoinSays}
use Rattle.summary.proofs.PackingLaws.{holds_packs}
use Rattle.schema.proofs.SchemaLaws.{laws_of}
use Rattle.template.proofs.ShapeLaws.{sound_not_bad}
use Rattle.summary.proofs.UniqueLaws.{packs_unique}
use Rattle.summary.proofs.NamedLaws.{spelled_below, reduced_below, joined_below}
use Rattle.summary.proofs.PlaceLaws.{packed_summary, summary_below, summary_good}

pub summary_of : (f bytes : List ℕ) {w : List Tag} {s : Summary} {t : Stack Piece} {c : Piece} → Spelled (name_count f) bytes w
    → Reduced (binoid_of f) w t c → Packs s t c → SummaryOf f w s
summary_of f bytes b r p = record { spelled = (bytes, b); reduces = rw (p.form_is, p.last_is) r; holds = p.holds }

module _ (f : List ℕ) (sound : IsSound f) where
  -- ---- the summary of a word

  pub summary_of_unique : {w : List Tag} {s s' : Summary} → SummaryOf f w s → SummaryOf f w s' → s ≡ s'
  summary_of_unique {s = s} {s' = s'} p q =
      let (e, d) = reduced_unique (binoid_of f) (laws_of f sound) p.reduces q.reduces in
      packs_unique (holds_packs s p.holds) (rw (← e, ← d) at (holds_packs s' q.holds))

  pub summary_of_under : {w : List Tag} {s : Summary} → SummaryOf f w s → SummaryUnder f s
  summary_of_under {s = s} p =
      let (g, h) = reduced_good (binoid_of f) (laws_of f sound) p.reduces in
      packed_summary (name_count f) (states f) s (holds_packs s p.holds)
      (reduced_below (name_count f) (binoid_of f) p.reduces (spelled_below (name_count f) p.spelled.1)) g h

-- ---- fragments

module _ (f bytes : List ℕ) (r : FragmentReply) (says : FragmentSays f bytes r) (made : r.answer ≡ Ok tt) where
  summarised : FragmentAnswers f bytes (Ok tt) r.summary
  summarised = subst (λ a. FragmentAnswers f bytes a r.summary) made says

  pub fragment_sound : IsSound f
  fragment_sound = summarised.0

  -- the reply holds the summary of the word that the bytes spell
  pub fragment_summary_of : (w : List Tag) × Spelled (name_count f) bytes w × SummaryOf f w r.summary
  fragment_summary_of =
      let (sound, (t, c, read, p)) = summarised in
      let (all, formed) = reads_finding (name_count f) (binoid_of f) most_tags read in
      (formed.word, formed.spelled, summary_of f bytes formed.spelled formed.reduced p)

  pub fragment_under : SummaryUnder f r.summary
  fragment_under = summary_of_under f fragment_sound fragment_summary_of.2

-- ---- joins

-- a joined summary is a summary, of whichever two
module _ (f : List ℕ) (left right : Summary) where
  joined_under_file : (s : Summary) → JoinAnswers f left right (Ok tt) s → SummaryUnder f s
  joined_under_file s ((sound, l, r), (t, c, o, k, p)) =
      let (gl, hl) = summary_good (name_count f) (states f) left l in
      let (gr, hr) = summary_good (name_count f) (states f) right r in
      let (g, h) = join_good (binoid_of f) (laws_of f sound) (form_of left) (form_of right) t (last_of left) (last_of right) c gl hl gr hr o in
      packed_summary (name_count f) (states f) s p
      (joined_below (name_count f) (binoid_of f) (form_of left) (form_of right) t (last_of left) (last_of right) c
      (summary_below (name_count f) (states f) left l) (summary_below (name_count f) (states f) right r) o)
      g h

  pub joined_under : (r : JoinReply) → JoinSays f left right r → r.answer ≡ Ok tt → SummaryUnder f r.summary
  joined_under r says e = joined_under_file r.summary (subst (λ a. JoinAnswers f left right a r.summary) e says)

-- two words, whose summaries are joined
module _ (f : List ℕ) (sound : IsSound f) {u v : List Tag} {left right : Summary} (p : SummaryOf f u left) (q : SummaryOf f v right) where
  -- the two in a row reduce to at most 16 tags, or to more
  abbrev pub Fits : Type 0
  Fits = (t : Stack Piece) × (c : Piece) × Reduced (binoid_of f) (u ++ v) t c × (tags t ≤ most_tags)

  abbrev pub Deep : Type 0
  Deep = (t : Stack Piece) × (c : Piece) × Reduced (binoid_of f) (u ++ v) t c × (most_tags < tags t)

  abbrev Means : Result Unit JoinRefusal → Summary → Type 0
  Means (Ok _) s = Fits × SummaryOf f (u ++ v) s
  Means (Err (BadFile i)) s = ⊥
  Means (Err NoSummary) s = ⊥
  Means (Err Mismatch) s = Mismatched (u ++ v)
  Means (Err TooDeep) s = Deep

  join_means : (a : Result Unit JoinRefusal) (s : Summary) → JoinAnswers f left right a s → Means a s
  join_means (Ok _) s (h, (t, c, o, k, z)) =
      let r = (join_reduced (binoid_of f) (laws_of f sound) p.reduces q.reduces t c).0 o in
      ((t, c, r, k), summary_of f _ (spelled_append (name_count f) p.spelled.1 q.spelled.1) r z)
  join_means (Err (BadFile i)) s (e, z) = sound_not_bad f i sound e
  join_means (Err NoSummary) s (h, n, z) = n (summary_of_under f sound p) (summary_of_under f sound q)
  join_means (Err Mismatch) s (h, o, z) = (join_differ (binoid_of f) (laws_of f sound) p.reduces q.reduces).0 o
  join_means (Err TooDeep) s (h, (t, c, o, k), z) =
      (t, c, (join_reduced (binoid_of f) (laws_of f sound) p.reduces q.reduces t c).0 o, k)

  -- of the three one at most is so

  fits_or_deep : Fits → Deep → ⊥
  fits_or_deep (t, c, r, k) (s, d, m, l) =
      let e : t ≡ s = (reduced_unique (binoid_of f) (laws_of f sound) r m).0 in
      let j : tags s ≤ most_tags = subst (λ t. tags t ≤ most_tags) e k in
      omega arith

  clash_or_reduced : {t : Stack Piece} {c : Piece} → Mismatched (u ++ v) → Reduced (binoid_of f) (u ++ v) t c → ⊥
  clash_or_reduced m r = never_both (binoid_of f) (laws_of f sound) r m

  means_joined : (a : Result Unit JoinRefusal) (s : Summary) → Means a s → Fits → a ≡ Ok tt
  means_joined (Ok _) s m h = refl
  means_joined (Err (BadFile i)) s m h = absurd m
  means_joined (Err NoSummary) s m h = absurd m
  means_joined (Err Mismatch) s m (t, c, r, k) = absurd (clash_or_reduced m r)
  means_joined (Err TooDeep) s m h = absurd (fits_or_deep h m)

  means_mismatch : (a : Result Unit JoinRefusal) (s : Summary) → Means a s → Mismatched (u ++ v) → a ≡ Err Mismatch
  means_mismatch (Ok _) s ((t, c, r, k), z) h = absurd (clash_or_reduced h r)
  means_mismatch (Err (BadFile i)) s m h = absurd m
  means_mismatch (Err NoSummary) s m h = absurd m
  means_mismatch (Err Mismatch) s m h = refl
  means_mismatch (Err TooDeep) s (t, c, r, k) h = absurd (clash_or_reduced h r)

  means_deep : (a : Result Unit JoinRefusal) (s : Summary) → Means a s → Deep → a ≡ Err TooDeep
  means_deep (Ok _) s m h = absurd (fits_or_deep m.0 h)
  means_deep (Err (BadFile i)) s m h = absurd m
  means_deep (Err NoSummary) s m h = absurd m
  means_deep (Err Mismatch) s m (t, c, r, k) = absurd (clash_or_reduced m r)
  means_deep (Err TooDeep) s m h = refl

  -- the replies
  module _ (r : JoinReply) (says : JoinSays f left right r) where
    meaning : Means r.answer r.summary
    meaning = join_means r.answer r.summary says

    pub joined_iff : (r.answer ≡ Ok tt) ↔ Fits
    joined_iff = (
      λ e. (subst (λ a. Means a r.summary) e meaning).0,
      means_joined r.answer r.summary meaning,
    )

    pub joined_summary_of : r.answer ≡ Ok tt → SummaryOf f (u ++ v) r.summary
    joined_summary_of e = (subst (λ a. Means a r.summary) e meaning).1

    pub mismatch_iff : (r.answer ≡ Err Mismatch) ↔ Mismatched (u ++ v)
    mismatch_iff = (
      λ e. subst (λ a. Means a r.summary) e meaning,
      means_mismatch r.answer r.summary meaning,
    )

    pub deep_iff : (r.answer ≡ Err TooDeep) ↔ Deep
    deep_iff = (
      λ e. subst (λ a. Means a r.summary) e meaning,
      means_deep r.answer r.summary meaning,
    )
