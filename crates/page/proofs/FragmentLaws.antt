-- A page's reply and the reply of the same bytes as a fragment: the page is valid, unmatched or not derived exactly where the fragment is
-- summarised, and each refusal is the same with the same place. Both replies are those of the one thing that reading found.
-- Assumes nothing.
use mathlib.Core.Path.{◌≡◌, refl, sym, ap, ◌∙◌, subst}
use mathlib.Core.List.{List}
use mathlib.Core.Logic.{inl, inr}
use Prim.Native.Nat.{ℕ}
use Rattle.std.specs.Prelude.{Result, Ok, Err}
use Rattle.words.specs.Tags.{Tag}
use Rattle.pieces.specs.declared.Piece.{Piece}
use Rattle.pieces.specs.Pieces.{most_tags}
use Rattle.template.specs.Layout.{name_count}
use Rattle.reader.specs.Reads.{Found, whole, refused, no_tag, mismatch, too_many}
use Rattle.reader.proofs.ReadsLaws.{reads_unique}
use Rattle.form.specs.declared.Summary.{Summary}
use Rattle.form.specs.declared.Flaw.{Flaw}
use Rattle.form.specs.declared.Flaw.TheVariants as flaw
use Rattle.summary.specs.declared.FragmentRefusal.{FragmentRefusal}
use Rattle.summary.specs.declared.FragmentRefusal.TheVariants as fragment
use Rattle.summary.specs.Replies.{FragmentReply}
use Rattle.schema.specs.Schemas.{binoid_of}
use Rattle.summary.specs.Fragments.{FragmentSays}
use Rattle.schema.proofs.SchemaLaws.{laws_of}
use Rattle.template.proofs.ShapeLaws.{sound_not_bad}
use Rattle.summary.proofs.UniqueLaws.{bad_unique, AnswersFound, FragmentCase, fragment_case}
use Rattle.page.specs.declared.PageRefusal.{PageRefusal}
use Rattle.page.specs.declared.PageRefusal.TheVariants as page
use Rattle.page.specs.Pages.{PageSays, tested}
use Rattle.page.proofs.UniqueLaws.{EndSays, PageFound, PageCase, page_case}

-- a page that is read to its end is summarised; a refusal is the same, with the same place
abbrev pub fragment_answer_of : Result Unit PageRefusal → Result Unit FragmentRefusal
fragment_answer_of (Ok _) = Ok tt
fragment_answer_of (Err (page.BadFile i)) = Err (fragment.BadFile i)
fragment_answer_of (Err (page.NotATag i)) = Err (fragment.NotATag i)
fragment_answer_of (Err (page.Mismatch i)) = Err (fragment.Mismatch i)
fragment_answer_of (Err (page.TooDeep i)) = Err (fragment.TooDeep i)
fragment_answer_of (Err page.Unmatched) = Ok tt
fragment_answer_of (Err page.NotDerived) = Ok tt

module _ (f bytes : List ℕ) where
  ending_summarised : (e : Result Unit Flaw) → fragment_answer_of (tested e) ≡ Ok tt
  ending_summarised (Ok _) = refl
  ending_summarised (Err flaw.Unmatched) = refl
  ending_summarised (Err flaw.NotDerived) = refl

  end_summarised : (w : List Tag) (p : Result Unit PageRefusal) → EndSays f w p → fragment_answer_of p ≡ Ok tt
  end_summarised w p (e, m, h) = ap fragment_answer_of h ∙ ending_summarised e

  found_fragment : (found : Found Piece) (p : Result Unit PageRefusal) (a : Result Unit FragmentRefusal) (s : Summary) → PageFound f bytes found p
      → AnswersFound found a s → a ≡ fragment_answer_of p
  found_fragment (whole t c) p a s (w, spelled, e) (d, k) = d ∙ sym (end_summarised w p e)
  found_fragment (refused no_tag i) p a s e (d, k) = d ∙ sym (ap fragment_answer_of e)
  found_fragment (refused mismatch i) p a s e (d, k) = d ∙ sym (ap fragment_answer_of e)
  found_fragment (refused too_many i) p a s e (d, k) = d ∙ sym (ap fragment_answer_of e)

  case_fragment : (p : Result Unit PageRefusal) (a : Result Unit FragmentRefusal) (s : Summary) → PageCase f bytes p → FragmentCase f bytes a s
      → a ≡ fragment_answer_of p
  case_fragment p a s (inl (i, e, h)) (inl (j, d, k, z)) = k ∙ ap (λ i. Err (fragment.BadFile i)) (bad_unique f j i d e) ∙ sym (ap fragment_answer_of h)
  case_fragment p a s (inl (i, e, h)) (inr (sound, x)) = absurd (sound_not_bad f i sound e)
  case_fragment p a s (inr (sound, x)) (inl (i, e, h, z)) = absurd (sound_not_bad f i sound e)
  case_fragment p a s (inr (sound, (x, r, h))) (inr (_, (y, t, k))) =
      found_fragment y p a s (subst (λ z. PageFound f bytes z p) (reads_unique (name_count f) (binoid_of f) most_tags (laws_of f sound) r t) h) k

  pub page_fragment : (p : Result Unit PageRefusal) (r : FragmentReply) → PageSays f bytes p → FragmentSays f bytes r → r.answer ≡ fragment_answer_of p
  page_fragment p r h k =
      case_fragment p r.answer r.summary (page_case f bytes p h) (fragment_case f bytes r.answer r.summary k)
