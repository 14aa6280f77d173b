-- A page's reply from the reply of the same bytes as a fragment. A refusal is the same. Else the bytes spell a word whose reduced form the
-- summary packs, and what the two tests at the end answer of that form is so of the word (schema/proofs/SchemaLaws.antt). Assumes nothing.
use mathlib.Core.Path.{◌≡◌, refl}
use mathlib.Core.List.{List}
use Prim.Native.Nat.{ℕ}
use borrow.Author.Rules.{rules}
use Rattle.std.specs.Prelude.{Result, Ok, Err}
use Rattle.words.specs.Tags.{Tag}
use Rattle.words.specs.Reduced.{Stack, tags, Reduced}
use Rattle.pieces.specs.declared.Piece.{Piece}
use Rattle.pieces.specs.Pieces.{most_tags, pieces}
use Rattle.template.specs.Layout.{name_count}
use Rattle.template.specs.Order.{IsSound}
use Rattle.template.proofs.ShapeLaws.{read_is}
use Rattle.form.specs.Held.{tag_count, form_of, last_of, Holds}
use Rattle.form.specs.Endings.{ending_of}
use Rattle.form.specs.declared.Summary.{Summary}
use Rattle.form.specs.declared.Flaw.{Flaw}
use Rattle.form.specs.declared.Flaw.TheVariants as flaw
use Rattle.form.proofs.HeldLaws.{tags_held}
use Rattle.schema.specs.Schemas.{binoid_of, LoreOf}
use Rattle.schema.proofs.SchemaLaws.{Means, ending_means}
use Rattle.reader.specs.Reads.{Spelled, AllReadable, Reads}
use Rattle.reader.proofs.ReadsLaws.{reads_finding}
use Rattle.reader.specs.declared.Stop.{Stop}
use Rattle.reader.specs.declared.Stop.TheVariants as stop
use Rattle.summary.specs.declared.FragmentRefusal.TheVariants as fragment
use Rattle.summary.specs.Replies.{FragmentAnswer, FragmentReply, reply_of}
use Rattle.summary.specs.Fragments.{FragmentAnswers, FragmentSays, FragmentFinds}
use Rattle.summary.proofs.FragmentLaws.{found_reply, says_found}
use Rattle.page.specs.declared.PageRefusal.{PageRefusal}
use Rattle.page.specs.declared.PageRefusal.TheVariants.{BadFile, NotATag, Mismatch, TooDeep}
use Rattle.page.specs.Pages.{PageReply, PageSays, stopped, tested}

-- ---- the two tests, on the form that a summary packs

pub tested_form : (lore : List ℕ) (s : Summary) (last : Piece) (e : Result Unit Flaw) → last ≡ last_of s
    → ((form : Stack Piece) → tags form ≡ tag_count s.counts → e ≡ ending_of lore form last)
    → e ≡ ending_of lore (form_of s) (last_of s)
tested_form lore s last e is tested =
    let held = tags_held s.counts.ends (tag_count s.counts) s.names s.values in rw (← is) (tested (form_of s) held)

pub summarised_holds : (known : ℕ) (lore bytes : List ℕ) (r : Result Summary Stop)
    → FragmentFinds (Reads known (pieces lore) most_tags bytes) r → (s : Summary) → r ≡ Ok s → Holds s
summarised_holds known lore bytes r found s e = let (t, c, read, packs) = rw e at found in packs.holds

-- ---- the three replies at a page's end, by its word

pub end_page : (f bytes : List ℕ) (w : List Tag) (e : Result Unit Flaw) → IsSound f
    → AllReadable (name_count f) (binoid_of f) most_tags bytes → Spelled (name_count f) bytes w → Means f w e
    → PageSays f bytes (tested e)
end_page f bytes w (Ok _) sound all spelled m = (sound, all, (w, spelled, m))
end_page f bytes w (Err flaw.Unmatched) sound all spelled m = (sound, all, (w, spelled, m))
end_page f bytes w (Err flaw.NotDerived) sound all spelled m = (sound, all, (w, spelled, m))

-- ---- the replies, from the fragment's

stop_says : (f bytes : List ℕ) (e : Stop) → FragmentSays f bytes (reply_of (found_reply (Err e))) → PageSays f bytes (Err (stopped e))
stop_says f bytes (stop.NotATag p) (sound, read, _) = (sound, read)
stop_says f bytes (stop.Mismatch p) (sound, read, _) = (sound, read)
stop_says f bytes (stop.TooDeep p) (sound, read, _) = (sound, read)

module _ (f bytes : List ℕ) (r : Result Summary Stop) (says : FragmentSays f bytes (reply_of (found_reply r))) where
  pub summarised_page : (s : Summary) → r ≡ Ok s → (lore : List ℕ) → LoreOf f lore → (p : Result Unit PageRefusal)
      → p ≡ tested (ending_of lore (form_of s) (last_of s)) → PageSays f bytes p
  summarised_page s e lore taught p is =
      let (sound, (t, c, read, packs)) = rw e at says in
      let (all, formed) = reads_finding (name_count f) (binoid_of f) most_tags read in
      let reduces : Reduced (binoid_of f) formed.word (form_of s) (last_of s) = rw (packs.form_is, packs.last_is) formed.reduced in
      let end = ending_of lore (form_of s) (last_of s) in
      rw is (end_page f bytes formed.word end sound all formed.spelled (ending_means f lore sound taught formed.word _ _ reduces))

  pub stopped_page : (e : Stop) → r ≡ Err e → PageSays f bytes (Err (stopped e))
  stopped_page e d = stop_says f bytes e (rw d at says)

-- ---- the replies, from the answer of a fragment's reply

-- what refused a fragment, as a reply; one that was summarised leaves the page valid so far
abbrev pub refusal : FragmentAnswer → PageReply
refusal (Ok _) = Ok tt
refusal (Err (fragment.BadFile p)) = Err (BadFile p)
refusal (Err (fragment.NotATag p)) = Err (NotATag p)
refusal (Err (fragment.Mismatch p)) = Err (Mismatch p)
refusal (Err (fragment.TooDeep p)) = Err (TooDeep p)

refusal_says : (f bytes : List ℕ) (a : FragmentAnswer) (s : Summary) → (a ≡ Ok tt → ⊥) → FragmentAnswers f bytes a s
    → PageSays f bytes (refusal a)
refusal_says f bytes (Ok tt) s k says = absurd (k refl)
refusal_says f bytes (Err (fragment.BadFile p)) s k (bad, _) = bad
refusal_says f bytes (Err (fragment.NotATag p)) s k (sound, read, _) = (sound, read)
refusal_says f bytes (Err (fragment.Mismatch p)) s k (sound, read, _) = (sound, read)
refusal_says f bytes (Err (fragment.TooDeep p)) s k (sound, read, _) = (sound, read)

module _ (f bytes : List ℕ) (r : FragmentReply) (says : FragmentSays f bytes r) where
  pub refused_page : (r.answer ≡ Ok tt → ⊥) → (p : PageReply) → p ≡ refusal r.answer → PageSays f bytes p
  refused_page k p is = rw is (refusal_says f bytes r.answer r.summary k says)

pub ruleset page_turns = (read_is, says_found, summarised_holds, summarised_page, stopped_page, rules)
