-- A run of bytes read to a place (specs/Feeds.antt): what the arrays hold there is the form of the bytes before it, and all of them are
-- readable. One byte more keeps that or ends the reading; the laws are in the words of a loop over the bytes. Assumes nothing.
use mathlib.Core.Path.{◌≡◌, sym, subst}
use mathlib.Core.List.{List, [], ◌∷◌, ◌++◌}
use Prim.Native.Nat.{ℕ, suc, ◌+◌, ◌≤◌, ◌<◌}
use native.Mathlib.Numerals.{add-one}
use native.Mathlib.Omega.{arith}
use borrow.Author.Rules.{rules}
use Rattle.std.specs.Prelude.{Result, Ok, Err}
use lib.ListN.{length, get_or, take, drop}
use lib.Seq.{length-take-le, take_all, take-suc, split_at}
use Rattle.words.specs.Tags.{Tag, Spells}
use Rattle.words.specs.Binoid.{Binoid}
use Rattle.words.specs.Reader.{Limited, differs, too_deep}
use Rattle.hedge.specs.Schema.{most_states}
use Rattle.lore.specs.Lore.{Known}
use Rattle.pieces.specs.declared.Piece.{Piece}
use Rattle.pieces.specs.Pieces.{most_tags, piece_at, pieces}
use Rattle.pieces.proofs.PieceLaws.{pieces_laws}
use Rattle.form.specs.Held.{stack_of, summary_of, form_of, last_of, Holds}
use Rattle.form.specs.Steps.{held, after_tag}
use Rattle.form.specs.declared.Counts.{Counts}
use Rattle.form.specs.declared.Summary.{Summary}
use Rattle.reader.specs.Reads.{Reason, whole, refused}
use Rattle.reader.specs.Reads.{Form, Refused, by_no_tag, AllReadable, Reads, reads_all, reads_to}
use Rattle.reader.specs.Feeds.{Fed, Progressed}
use Rattle.reader.specs.declared.Stop.{Stop}
use Rattle.reader.specs.declared.Stop.TheVariants.{NotATag, Mismatch, TooDeep}
use Rattle.reader.proofs.FormLaws.{form_empty}
use Rattle.reader.proofs.ReadsLaws.{all_readable_none}
use Rattle.reader.proofs.NextLaws.{AfterByte, after_step}

-- the summary holds the form of the bytes
abbrev pub FormIn : ℕ → List ℕ → List ℕ → Summary → Type 0
FormIn known lore bytes s = Form known (pieces lore) most_tags bytes (form_of s) (last_of s)

-- the bytes before place i are readable, and the arrays hold their form
pub record SoFar (known : ℕ) (lore bytes : List ℕ) (i : ℕ) (c : Counts) (names values : List ℕ) : Type 0 where
  pub holds : Holds (summary_of c names values)
  pub readable : AllReadable known (pieces lore) most_tags (take i bytes)
  pub form : FormIn known lore (take i bytes) (summary_of c names values)

-- a place in the bytes

module _ (bytes : List ℕ) (i : ℕ) (l : i < length bytes) where
  take_next : take (i + 1) bytes ≡ take i bytes ++ (get_or bytes i 0 ∷ [])
  take_next = rw (add-one, take-suc bytes i 0)

  -- a refusal of the byte at place i
  refused_at : (A : ℕ) (B : Binoid) (n : ℕ) {why : Reason} → AllReadable A B n (take i bytes)
      → Refused A B n (take i bytes ++ (get_or bytes i 0 ∷ [])) why → Reads A B n bytes (refused why i)
  refused_at A B n {why} r f =
      subst (λ k. Reads A B n bytes (refused why k)) (length-take-le i bytes (omega arith))
      (subst (λ x. Reads A B n x (refused why (length (take i bytes)))) (sym (split_at bytes i 0 l))
      (reads_to (take i bytes) (get_or bytes i 0) (drop (suc i) bytes) r f))

module _ (known : ℕ) (lore bytes : List ℕ) where
  -- none

  pub so_far_none : (c : Counts) (names values : List ℕ) → c ≡ record { ends = 0; starts = 0 }
      → Holds (summary_of (record { ends = 0; starts = 0 }) names values) → piece_at values 0 ≡ (pieces lore).unit
      → SoFar known lore bytes 0 c names values
  unfolding stack_of
  so_far_none c names values z h e =
      rw z record {
        holds = h;
        readable = all_readable_none known (pieces lore) most_tags;
        form =
            subst (λ v. Form known (pieces lore) most_tags [] (stack_of 0 names values 0) v) (sym e)
            (form_empty known (pieces lore) most_tags);
      }

  -- end

  pub so_far_end : (i : ℕ) (c : Counts) (names values : List ℕ) → SoFar known lore bytes i c names values → length bytes ≤ i
      → Progressed (Ok c) names values (Reads known (pieces lore) most_tags bytes)
  so_far_end i c names values t l =
      let s = summary_of c names values in (
        t.holds,
        subst (λ x. Reads known (pieces lore) most_tags x (whole (form_of s) (last_of s))) (take_all i bytes l)
            (reads_all t.readable t.form),
      )

  -- next

  module _ (is : Known most_states lore) (i : ℕ) (c : Counts) (l : i < length bytes) (names values : List ℕ)
      (t : SoFar known lore bytes i c names values) (names' values' : List ℕ) where
    after_byte : {u : Tag} → Spells known (get_or bytes i 0) u → (o : Limited Piece)
        → after_tag lore (summary_of c names values) u ≡ o
        → AfterByte known (pieces lore) most_tags (take i bytes ++ (get_or bytes i 0 ∷ [])) o
    unfolding after_tag
    after_byte p o q =
        after_step known (pieces lore) most_tags (pieces_laws lore is) (take i bytes) (get_or bytes i 0) t.readable t.form p o q

    pub so_far_next : (f : Result Counts Stop) (d : Counts)
        → Fed f names' values' (after_tag lore (summary_of c names values)) known (get_or bytes i 0) i
        → f ≡ Ok d → SoFar known lore bytes (i + 1) d names' values'
    so_far_next f d g q =
        let (u, p, o, h) = rw q at g in
        let (r, m) = after_byte p (held (summary_of d names' values')) o in
        let e = sym (take_next bytes i l) in
        record {
          holds = h;
          readable = subst (λ x. AllReadable known (pieces lore) most_tags x) e r;
          form = subst (λ x. FormIn known lore x (summary_of d names' values')) e m;
        }

    -- the byte ends the reading
    pub so_far_refused : (e : Stop) → Fed (Err e) names' values' (after_tag lore (summary_of c names values)) known (get_or bytes i 0) i
        → Progressed (Err e) names' values' (Reads known (pieces lore) most_tags bytes)
    so_far_refused (NotATag k) (e, g) =
        rw e (refused_at bytes i l known (pieces lore) most_tags t.readable (by_no_tag (take i bytes) (get_or bytes i 0) g))
    so_far_refused (Mismatch k) (e, (u, p, (x, y, o))) =
        rw e (refused_at bytes i l known (pieces lore) most_tags t.readable (after_byte p (differs x y) o))
    so_far_refused (TooDeep k) (e, (u, p, o)) =
        rw e (refused_at bytes i l known (pieces lore) most_tags t.readable (after_byte p too_deep o))

pub ruleset readings = (so_far_none, so_far_end, so_far_next, so_far_refused, rules)
