-- Two runs of bytes in one go against the join of their forms (specs/Reads.antt). Rules, section 7: of ten starts, and ten starts with
-- twenty ends, the forms join to one without tags, while reading all of it as one run is refused at the seventeenth start. The two
-- in a row spell the two words in a row, whose form the join gives. So what one go finds is the join's form, or a mismatch that the join
-- meets too, or too many tags on the way, and only there can they differ (DeepLaws.antt: they do). A refusal is never before the second
-- run, since the first is readable. Assumes nothing.
use mathlib.Core.Path.{◌≡◌, sym, ◌∙◌, subst}
use mathlib.Core.List.{List, [], ◌∷◌, ◌++◌, append_assoc}
use mathlib.Core.Logic.{inl, inr}
use Prim.Native.Nat.{ℕ, ◌+◌, ◌≤◌}
use native.Mathlib.Omega.{arith}
use lib.ListN.{length, length-append}
use Rattle.words.specs.Tags.{Tag}
use Rattle.words.specs.Balance.{Mismatched}
use Rattle.words.specs.Binoid.{Binoid, Laws}
use Rattle.words.specs.Reduced.{Stack}
use Rattle.words.specs.Reader.{Outcome, reduced, differ, join}
use Rattle.words.proofs.BalanceLaws.{mismatched_append}
use Rattle.words.proofs.JoinLaws.{join_reduced, join_differ}
use Rattle.reader.specs.Reads.{Spelled, Reason, no_tag, mismatch, too_many, Found, whole, refused, Form, Refused, AllReadable, Reads}
use Rattle.reader.proofs.SplitLaws.{Cut, cut_found}
use Rattle.reader.proofs.SpelledLaws.{spelled_append, spelled_split, spelled_unique}
use Rattle.reader.proofs.FormLaws.{Because, refused_because, unspelled_word, form_of_word}
use Rattle.reader.proofs.ReadsLaws.{Finding, reads_finding, all_readable_unrefused}

-- what one go finds of two runs, the second from place k on, whose forms join to o
module _ {H : Type 0} (k : ℕ) where
  abbrev pub InOneGo : Outcome H → Found H → Type 0
  InOneGo o (whole s c) = o ≡ reduced s c
  InOneGo o (refused no_tag i) = ⊥
  InOneGo o (refused mismatch i) = (k ≤ i) × ((a b : ℕ) × (o ≡ differ a b))
  InOneGo o (refused too_many i) = k ≤ i

module _ (A : ℕ) (B : Binoid) (n : ℕ) (L : Laws B) where
  -- a beginning of a spelled run

  mismatched_beginning : (x y : List ℕ) {w z : List Tag} → Spelled A (x ++ y) z → Spelled A x w → Mismatched w → Mismatched z
  mismatched_beginning x y p q m =
      let (f, g, e, r, t) = spelled_split A x y p in
      subst (λ w. Mismatched w) (sym e) (mismatched_append g (subst (λ w. Mismatched w) (spelled_unique A q r) m))

  tagged_beginning : (x y : List ℕ) {z : List Tag} → Spelled A (x ++ y) z → Because A B n x no_tag → ⊥
  tagged_beginning x y p f = let (w, g, e, q, r) = spelled_split A x y p in unspelled_word A B n x f w q

  -- a refusal after a readable run is not in it
  cut_after : (u v before : List ℕ) (b : ℕ) (after : List ℕ) {why : Reason} → AllReadable A B n u → Refused A B n (before ++ (b ∷ [])) why
      → Cut u v before b after → length u ≤ length before
  cut_after u v before b after r f (inl (z, e, g)) =
      let h : length before ≡ length u + length z = rw e (length-append u z) in omega arith
  cut_after u v before b after r f (inr (z, e, g)) = absurd (all_readable_unrefused A B n L u before b z r e f)

  module _ {u v : List ℕ} {s r : Stack B.H} {c d : B.H} (h : AllReadable A B n u) (f : Form A B n u s c) (g : Form A B n v r d) where
    both_spelled : Spelled A (u ++ v) (f.word ++ g.word)
    both_spelled = spelled_append A f.spelled g.spelled

    spelled_so_far : (before : List ℕ) (b : ℕ) (after : List ℕ) → u ++ v ≡ before ++ (b ∷ after)
        → Spelled A ((before ++ (b ∷ [])) ++ after) (f.word ++ g.word)
    spelled_so_far before b after e =
        subst (λ x. Spelled A x (f.word ++ g.word)) (e ∙ sym (append_assoc before (b ∷ []) after)) both_spelled

    place_after : (before : List ℕ) (b : ℕ) (after : List ℕ) {i : ℕ} {why : Reason} → u ++ v ≡ before ++ (b ∷ after) → i ≡ length before
        → Refused A B n (before ++ (b ∷ [])) why → length u ≤ i
    place_after before b after e k t = rw k (cut_after u v before b after h t (cut_found u v before b after e))

    in_one_go : (p : Found B.H) → Finding A B n (u ++ v) p → InOneGo (length u) (join B (reduced s c) r d) p
    in_one_go (whole t e) (k, q) = (join_reduced B L f.reduced g.reduced t e).1 (form_of_word A B n L both_spelled q)
    in_one_go (refused no_tag i) (before, b, after, e, k, l, t) =
        tagged_beginning (before ++ (b ∷ [])) after (spelled_so_far before b after e) (refused_because A B n t)
    in_one_go (refused mismatch i) (before, b, after, e, k, l, t) =
        let (w, q, m) = refused_because A B n t in (
          place_after before b after e k t,
          (join_differ B L f.reduced g.reduced).1
              (mismatched_beginning (before ++ (b ∷ [])) after (spelled_so_far before b after e) q m),
        )
    in_one_go (refused too_many i) (before, b, after, e, k, l, t) = place_after before b after e k t

  pub reads_join : {u v : List ℕ} {s r : Stack B.H} {c d : B.H} {p : Found B.H} → Reads A B n u (whole s c)
      → Reads A B n v (whole r d) → Reads A B n (u ++ v) p → InOneGo (length u) (join B (reduced s c) r d) p
  reads_join {p = p} x y z =
      let (h, f) = reads_finding A B n x in
      let (k, g) = reads_finding A B n y in
      in_one_go h f g p (reads_finding A B n z)
