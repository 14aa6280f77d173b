-- Demand 2 (specs/Second.antt) from the laws of the page and summary crates: a page's promise is met by "valid" exactly where the page is
-- read and valid; a fragment is summarised exactly where nothing is refused, since a run that is readable throughout holds no refusal; a
-- join of two words' summaries says what becomes of the two in a row. The numbers of the answers are taken apart by cases. Assumes nothing.
use Rattle.std.specs.Prelude.{Ok, Err}
use mathlib.Core.Path.{◌≡◌, refl, ap, ◌∙◌, subst}
use mathlib.Core.List.{List}
use mathlib.Core.Logic.{◌↔◌}
use Prim.Native.Nat.{ℕ}
use Rattle.pieces.specs.Pieces.{most_tags}
use Rattle.template.specs.Layout.{name_count}
use Rattle.template.specs.Order.{IsSound}
use Rattle.reader.specs.Reads.{AllReadable, Reason, refused}
use Rattle.reader.proofs.ReadsLaws.{reads_finding, all_readable_unrefused}
use Rattle.form.specs.declared.Summary.{Summary}
use Rattle.summary.specs.Replies.{FragmentAnswer}
use Rattle.summary.specs.declared.FragmentRefusal.TheVariants as fragment
use Rattle.summary.specs.Replies.{FragmentReply}
use Rattle.summary.specs.Replies.{JoinAnswer}
use Rattle.summary.specs.Replies.{JoinReply}
use Rattle.schema.specs.Schemas.{binoid_of}
use Rattle.summary.specs.Fragments.{ReadUnder, FragmentAnswers, FragmentSays}
use Rattle.summary.specs.Joins.{JoinSays}
use Rattle.summary.specs.Answers.{fragment_answer, fragment_number, join_answer, join_number}
use Rattle.schema.proofs.SchemaLaws.{laws_of}
use Rattle.template.proofs.ShapeLaws.{sound_not_bad}
use Rattle.summary.proofs.MeaningLaws.{fragment_summary_of, joined_iff, joined_summary_of, mismatch_iff, deep_iff}
use Rattle.page.specs.Pages.{PageReply}
use Rattle.page.specs.Pages.{PageSays, answer, number}
use Rattle.page.proofs.UniqueLaws.{page_valid}
use Rattle.demands.proofs.ReplyNumbers.{page_named, page-named, fragment_named, fragment-named, join_named, join-named}
use Rattle.demands.specs.Second.{Unrefused, PageJudged, FragmentReduced, JoinReduced}

-- ---- the numbers

answer_valid : (p : PageReply) → answer p ≡ 0 → p ≡ Ok tt
answer_valid p e = page-named p ∙ ap (λ (a : ℕ). page_named p a (number p)) e

pub answer_summarised : (a : FragmentAnswer) → fragment_answer a ≡ 0 → a ≡ Ok tt
answer_summarised a e = fragment-named a ∙ ap (λ (n : ℕ). fragment_named a n (fragment_number a)) e

-- an answer of a join that has no place is known by its number
pub answer_join : (a : JoinAnswer) {n : ℕ} → join_answer a ≡ n → a ≡ join_named a n (join_number a)
answer_join a e = join-named a ∙ ap (λ (n : ℕ). join_named a n (join_number a)) e

-- what holds exactly where the answer is this one holds exactly where its number is
numbered : {A P : Type 0} {a b : A} (n : A → ℕ) → (n a ≡ n b → a ≡ b) → (a ≡ b) ↔ P → (n a ≡ n b) ↔ P
numbered n back h = (λ e. h.0 (back e), λ p. ap n (h.1 p))

-- ---- pages

pub page_judged : (f bytes : List ℕ) (r : PageReply) → PageSays f bytes r → PageJudged f bytes (answer r)
page_judged f bytes r says =
    let (to, from) = page_valid f bytes r says in (
      λ e. let (sound, all, valid) = to (answer_valid r e) in ((sound, all), valid),
      λ ((sound, all), valid). ap answer (from (sound, all, valid)),
    )

-- ---- fragments

module _ (f bytes : List ℕ) where
  readable_not_refused : IsSound f → AllReadable (name_count f) (binoid_of f) most_tags bytes → (why : Reason) (i : ℕ)
      → ReadUnder f bytes (refused why i) → ⊥
  readable_not_refused sound all why i read =
      let (before, b, after, e, k, r, h) = reads_finding (name_count f) (binoid_of f) most_tags read in
      all_readable_unrefused (name_count f) (binoid_of f) most_tags (laws_of f sound) bytes before b after all e h

  summarised_unrefused : (s : Summary) → FragmentAnswers f bytes (Ok tt) s → Unrefused f bytes
  summarised_unrefused s (sound, (t, c, read, p)) = (sound, (reads_finding (name_count f) (binoid_of f) most_tags read).0)

  unrefused_summarised : (a : FragmentAnswer) (s : Summary) → FragmentAnswers f bytes a s → Unrefused f bytes → fragment_answer a ≡ 0
  unrefused_summarised (Ok tt) s says h = refl
  unrefused_summarised (Err (fragment.BadFile i)) s (e, z) (sound, all) = absurd (sound_not_bad f i sound e)
  unrefused_summarised (Err (fragment.NotATag i)) s (k, read, z) (sound, all) = absurd (readable_not_refused sound all _ i read)
  unrefused_summarised (Err (fragment.Mismatch i)) s (k, read, z) (sound, all) = absurd (readable_not_refused sound all _ i read)
  unrefused_summarised (Err (fragment.TooDeep i)) s (k, read, z) (sound, all) = absurd (readable_not_refused sound all _ i read)

  pub fragment_reduced : (r : FragmentReply) → FragmentSays f bytes r
      → FragmentReduced f bytes (fragment_answer r.answer) r.summary
  fragment_reduced r says = record {
    summarised = (
      λ e.
          summarised_unrefused r.summary
          (subst (λ a. FragmentAnswers f bytes a r.summary) (answer_summarised r.answer e) says),
      unrefused_summarised r.answer r.summary says,
    );
    reduced_form = λ e. fragment_summary_of f bytes r says (answer_summarised r.answer e);
  }

-- ---- joins

pub join_reduced : (f : List ℕ) (left right : Summary) (r : JoinReply) → JoinSays f left right r
    → JoinReduced f left right (join_answer r.answer) r.summary
join_reduced f left right r says sound u v p q =
    record {
      fits = numbered join_answer (λ e. answer_join r.answer e) (joined_iff f sound p q r says);
      end_to_end = λ e. joined_summary_of f sound p q r says (answer_join r.answer e);
      mismatch = numbered join_answer (λ e. answer_join r.answer e) (mismatch_iff f sound p q r says);
      too_deep = numbered join_answer (λ e. answer_join r.answer e) (deep_iff f sound p q r says);
    }
