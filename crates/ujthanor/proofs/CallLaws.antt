-- The calls (specs/Calls.antt), on variables. The summary of a reply has at most 16 tags, and that of a refusal is all zeros. Of the calls that
-- write a row: the row of the reply's summary, zeros where it is a refusal. Of the others: what stands for the images or the depth where the
-- reply is a refusal. By cases on the answer. Assumes nothing.
use Rattle.std.specs.Prelude.{Ok, Err}
use mathlib.Core.Path.{◌≡◌, refl, sym, ap, ◌∙◌}
use mathlib.Core.List.{List}
use Prim.Native.Nat.{ℕ, ◌≤◌}
use native.Mathlib.Omega.{arith}
use lib.IntN.{ℤ, pos}
use lib.ListN.{length}
use Rattle.words.specs.Reduced.{Stack}
use Rattle.pieces.specs.declared.Piece.{Piece}
use Rattle.pieces.specs.Pieces.{most_tags, pieces_long, AllCounted}
use Rattle.pieces.proofs.PieceLaws.{none_counted}
use Rattle.form.specs.Held.{tag_count}
use Rattle.form.specs.declared.Summary.{Summary}
use Rattle.worktable.specs.Packed.{row_width}
use Rattle.summary.specs.Replies.{FragmentAnswer, FragmentReply, JoinAnswer, JoinReply, DepthReply}
use Rattle.summary.specs.declared.FragmentRefusal.TheVariants as fragment
use Rattle.summary.specs.declared.JoinRefusal.TheVariants as joined
use Rattle.summary.specs.Packing.{Packs, zeros}
use Rattle.summary.specs.Fragments.{FragmentAnswers, FragmentSays}
use Rattle.summary.specs.Joins.{JoinAnswers, JoinSays, DepthSays}
use Rattle.summary.specs.Answers.{fragment_answer, fragment_number, join_answer, join_number, depth_answer, depth_number, net_depth}
use Rattle.summary.proofs.DepthLaws.{no_depth}
use Rattle.rounds.specs.declared.Passed.{Passed}
use Rattle.rounds.specs.Replies.{CheckReply}
use Rattle.rounds.specs.Checks.{CheckSays}
use Rattle.rounds.specs.Answers.{answer, number}
use Rattle.rounds.proofs.AnswerLaws.{no_images}
use Rattle.ujthanor.specs.LentRows.{written, StandsFor}
use Rattle.ujthanor.specs.Calls.{CheckCalled, FragmentCalled, JoinCalled, DepthCalled}

-- ---- the summary of a reply with answer a

-- at most 16 tags, 0, 1 or 2 outermost elements in each piece, and all zeros where the reply is a refusal
pub record Made (a : ℕ) (s : Summary) : Type 0 where
  pub low : a ≤ 15
  pub few : tag_count s.counts ≤ most_tags
  pub counted : AllCounted s.values
  pub zero : 1 ≤ a → s ≡ zeros

packed_made : (s : Summary) (t : Stack Piece) (c : Piece) → Packs s t c → Made 0 s
packed_made s t c packs =
    record { low = omega arith; few = packs.holds.room; counted = packs.holds.counted; zero = λ h. absurd (omega (arith, h)) }

refused_made : (a : ℕ) (s : Summary) → a ≤ 15 → s ≡ zeros → Made a s
unfolding zeros
refused_made a s low e = record { low = low; few = rw e (omega arith); counted = rw e (none_counted pieces_long); zero = λ _. e }

answered_made : (f bytes : List ℕ) (a : FragmentAnswer) (s : Summary) → FragmentAnswers f bytes a s → Made (fragment_answer a) s
answered_made f bytes (Ok tt) s (_, (t, c, _, packs)) = packed_made s t c packs
answered_made f bytes (Err (fragment.BadFile p)) s (_, e) = refused_made 7 s (omega arith) e
answered_made f bytes (Err (fragment.NotATag p)) s (_, _, e) = refused_made 10 s (omega arith) e
answered_made f bytes (Err (fragment.Mismatch p)) s (_, _, e) = refused_made 11 s (omega arith) e
answered_made f bytes (Err (fragment.TooDeep p)) s (_, _, e) = refused_made 12 s (omega arith) e

joined_made : (f : List ℕ) (left right : Summary) (a : JoinAnswer) (s : Summary) → JoinAnswers f left right a s → Made (join_answer a) s
joined_made f left right (Ok tt) s (_, (t, c, _, _, packs)) = packed_made s t c packs
joined_made f left right (Err (joined.BadFile p)) s (_, e) = refused_made 7 s (omega arith) e
joined_made f left right (Err joined.NoSummary) s (_, _, e) = refused_made 15 s (omega arith) e
joined_made f left right (Err joined.Mismatch) s (_, _, e) = refused_made 11 s (omega arith) e
joined_made f left right (Err joined.TooDeep) s (_, _, e) = refused_made 12 s (omega arith) e

pub fragment_made : (f bytes : List ℕ) (r : FragmentReply) → FragmentSays f bytes r → Made (fragment_answer r.answer) r.summary
fragment_made f bytes r says = answered_made f bytes r.answer r.summary says

pub join_made : (f : List ℕ) (left right : Summary) (r : JoinReply) → JoinSays f left right r
    → Made (join_answer r.answer) r.summary
join_made f left right r says = joined_made f left right r.answer r.summary says

-- ---- a reply that is not answered 0: its summary is all zeros

fragment_zeros : (f bytes : List ℕ) (a : FragmentAnswer) (s : Summary) → FragmentAnswers f bytes a s → (a ≡ Ok tt → ⊥) → zeros ≡ s
fragment_zeros f bytes (Ok tt) s says k = absurd (k refl)
fragment_zeros f bytes (Err (fragment.BadFile p)) s (_, e) k = sym e
fragment_zeros f bytes (Err (fragment.NotATag p)) s (_, _, e) k = sym e
fragment_zeros f bytes (Err (fragment.Mismatch p)) s (_, _, e) k = sym e
fragment_zeros f bytes (Err (fragment.TooDeep p)) s (_, _, e) k = sym e

join_zeros : (f : List ℕ) (left right : Summary) (a : JoinAnswer) (s : Summary) → JoinAnswers f left right a s → (a ≡ Ok tt → ⊥) → zeros ≡ s
join_zeros f left right (Ok tt) s says k = absurd (k refl)
join_zeros f left right (Err (joined.BadFile p)) s (_, e) k = sym e
join_zeros f left right (Err joined.NoSummary) s (_, _, e) k = sym e
join_zeros f left right (Err joined.Mismatch) s (_, _, e) k = sym e
join_zeros f left right (Err joined.TooDeep) s (_, _, e) k = sym e

-- ---- a fragment

module _ (f bytes row : List ℕ) (a n : ℕ) (row' : List ℕ) where
  pub fragment_written : (r : FragmentReply) → row_width ≤ length row → FragmentSays f bytes r → a ≡ fragment_answer r.answer
      → n ≡ fragment_number r.answer → row' ≡ written row r.summary → FragmentCalled f bytes row a n row'
  fragment_written r long says e d w =
      record {
        short_row = λ l. absurd (omega (arith, l, long));
        else_written = λ _. record { reply = r; says = says; answer_is = e; number_is = d; row_is = w };
      }

  pub fragment_refused : (r : FragmentReply) → row_width ≤ length row → FragmentSays f bytes r → a ≡ fragment_answer r.answer
      → n ≡ fragment_number r.answer → (r.answer ≡ Ok tt → ⊥) → row' ≡ written row zeros
      → FragmentCalled f bytes row a n row'
  fragment_refused r long says e d k w =
      fragment_written r long says e d (w ∙ ap (written row) (fragment_zeros f bytes r.answer r.summary says k))

-- ---- a join

module _ (f left right row : List ℕ) (a n : ℕ) (row' : List ℕ) where
  pub join_written : (l m : Summary) (r : JoinReply) → row_width ≤ length row → StandsFor left l → StandsFor right m → JoinSays f l m r
      → a ≡ join_answer r.answer → n ≡ join_number r.answer → row' ≡ written row r.summary
      → JoinCalled f left right row a n row'
  join_written l m r long first second says e d w =
      record {
        short_row = λ l. absurd (omega (arith, l, long));
        else_written = λ _.
            record {
              first = l;
              second = m;
              reply = r;
              left_lent = first;
              right_lent = second;
              says = says;
              answer_is = e;
              number_is = d;
              row_is = w;
            };
      }

  pub join-refused : (l m : Summary) (r : JoinReply) → row_width ≤ length row → StandsFor left l → StandsFor right m → JoinSays f l m r
      → a ≡ join_answer r.answer → n ≡ join_number r.answer → (r.answer ≡ Ok tt → ⊥)
      → row' ≡ written row zeros → JoinCalled f left right row a n row'
  join-refused l m r long first second says e d k w =
      join_written l m r long first second says e d (w ∙ ap (written row) (join_zeros f l m r.answer r.summary says k))

-- ---- a check

module _ (f t : List ℕ) (budget a n m : ℕ) (t' : List ℕ) (r : CheckReply) (says : CheckSays f t budget r t') where
  pub check_other : ((p : Passed) → r ≡ Ok p → ⊥) → a ≡ answer r → n ≡ number r → m ≡ 0 → CheckCalled f t budget a n m t'
  check_other k e d i =
      record { reply = r; says = says; answer_is = e; number_is = d; images_are = i ∙ no_images r k }

-- ---- a net depth

module _ (f row : List ℕ) (a n : ℕ) (z : ℤ) (s : Summary) (stands : StandsFor row s) (r : DepthReply) (says : DepthSays f s r)
    (d : n ≡ depth_number r) where
  depth_called : a ≡ depth_answer r → z ≡ net_depth r → DepthCalled f row a n z
  depth_called e i = record { lent = s; reply = r; row_lent = stands; says = says; answer_is = e; number_is = d; depth_is = i }

  pub depth_refused : ((z : ℤ) → r ≡ Ok z → ⊥) → a ≡ depth_answer r → z ≡ pos 0 → DepthCalled f row a n z
  depth_refused k e i = depth_called e (i ∙ no_depth r k)
