-- Reading a run of bytes as a computation, so that the cases of a table can be run: the class of a byte by four tests, the tag stepped
-- under the limit, and a refusal with the number of bytes before it. One law says that what it gives is what specs of reading say: at each
-- byte the law of one tag more (reader/proofs/NextLaws.antt) tells what the bytes so far are. Assumes nothing.
use mathlib.Core.Path.{refl}
use mathlib.Core.List.{List, [], ◌∷◌, ◌++◌, append_assoc, append-nil}
use Prim.Native.Nat.{ℕ, ◌-◌, ◌<◌}
use native.Mathlib.Decide.{dec_lt}
use native.Mathlib.Omega.{arith}
use lib.ListN.{length}
use Rattle.words.specs.Tags.{Tag, start, end, Spells}
use Rattle.words.specs.Binoid.{Binoid, Laws}
use Rattle.words.specs.Reduced.{Stack, bottom}
use Rattle.words.specs.Reader.{Limited, fits, differs, too_deep, step, limit}
use Rattle.words.specs.Classes.{Classed}
use Rattle.std.specs.Prelude.{Option, None, Some}
use Rattle.words.specs.declared.Tag as class
use Rattle.words.specs.declared.Tag.TheVariants.{Start, End}
use Rattle.words.proofs.ClassLaws.{start_spelled, end_spelled, low_unspelled, high_unspelled, past_unspelled}
use Rattle.reader.specs.Reads.{Found, whole, refused, no_tag, mismatch, too_many, Form, AllReadable, Reads, reads_all, reads_to, by_no_tag}
use Rattle.reader.proofs.FormLaws.{form_empty}
use Rattle.reader.proofs.ReadsLaws.{all_readable_none}
use Rattle.reader.proofs.NextLaws.{AfterByte, after_step}

-- ---- the class of a byte

module _ (A b : ℕ) where
  unfoldable pub class_by : Dec (b < 32) → Dec (b < 64) → Dec (b < A) → Dec (b - 32 < A) → Option class.Tag
  class_by (yes l) m (yes k) g = Some (Start b)
  class_by (yes l) m (no k) g = None
  class_by (no l) (no m) k g = None
  class_by (no l) (yes m) k (yes g) = Some (End (b - 32))
  class_by (no l) (yes m) k (no g) = None

  unfoldable pub class_of : Option class.Tag
  class_of = class_by (dec_lt b 32) (dec_lt b 64) (dec_lt b A) (dec_lt (b - 32) A)

  classed_by : (l : Dec (b < 32)) (m : Dec (b < 64)) (k : Dec (b < A)) (g : Dec (b - 32 < A)) → Classed A b (class_by l m k g)
  unfolding class_by
  classed_by (yes l) m (yes k) g = start_spelled l k
  classed_by (yes l) m (no k) g = low_unspelled l (omega arith)
  classed_by (no l) (no m) k g = past_unspelled (omega arith)
  classed_by (no l) (yes m) k (yes g) = end_spelled (omega arith) m g
  classed_by (no l) (yes m) k (no g) = high_unspelled (omega arith) (omega arith)

  classed : Classed A b class_of
  unfolding class_of
  classed = classed_by (dec_lt b 32) (dec_lt b 64) (dec_lt b A) (dec_lt (b - 32) A)

-- ---- the bytes one by one

module _ (A : ℕ) (B : Binoid) (n : ℕ) where
  -- after a tag: go on from the form that it leaves, or stop at its place
  unfoldable pub find_on : ℕ → (Stack B.H → B.H → Found B.H) → Limited B.H → Found B.H
  find_on i more (fits s c) = more s c
  find_on i more (differs x y) = refused mismatch i
  find_on i more too_deep = refused too_many i

  unfoldable pub find_by : ℕ → (Stack B.H → B.H → Found B.H) → Stack B.H → B.H → Option class.Tag → Found B.H
  find_by i more s c (Some (Start a)) = find_on i more (limit B n (step B s c (start a)))
  find_by i more s c (Some (End a)) = find_on i more (limit B n (step B s c (end a)))
  find_by i more s c None = refused no_tag i

  -- the bytes behind `before`, which left this form
  unfoldable pub find_from : List ℕ → List ℕ → Stack B.H → B.H → Found B.H
  find_from [] before s c = whole s c
  find_from (b ∷ after) before s c =
      find_by (length before) (λ s c. find_from after (before ++ (b ∷ [])) s c) s c (class_of A b)

  unfoldable pub find : List ℕ → Found B.H
  find bytes = find_from bytes [] bottom B.unit

  -- ---- what is found is what reading finds

  module _ (L : Laws B) where
    module _ (u : List ℕ) (b : ℕ) (v : List ℕ) (more : Stack B.H → B.H → Found B.H)
        (onward : (s : Stack B.H) (c : B.H) → AllReadable A B n (u ++ (b ∷ [])) → Form A B n (u ++ (b ∷ [])) s c
        → Reads A B n (u ++ (b ∷ v)) (more s c)) (r : AllReadable A B n u) where
      on_reads : (l : Limited B.H) → AfterByte A B n (u ++ (b ∷ [])) l → Reads A B n (u ++ (b ∷ v)) (find_on (length u) more l)
      unfolding find_on
      on_reads (fits s c) (h, g) = onward s c h g
      on_reads (differs x y) g = reads_to u b v r g
      on_reads too_deep g = reads_to u b v r g

      tag_reads : {t : Tag} {s : Stack B.H} {c : B.H} → Form A B n u s c → Spells A b t
          → Reads A B n (u ++ (b ∷ v)) (find_on (length u) more (limit B n (step B s c t)))
      tag_reads {t} {s} {c} f p =
          on_reads (limit B n (step B s c t)) (after_step A B n L u b r f p (limit B n (step B s c t)) refl)

      by_reads : (s : Stack B.H) (c : B.H) → Form A B n u s c → (k : Option class.Tag) → Classed A b k
          → Reads A B n (u ++ (b ∷ v)) (find_by (length u) more s c k)
      unfolding find_by
      by_reads s c f (Some (Start a)) p = tag_reads f p
      by_reads s c f (Some (End a)) p = tag_reads f p
      by_reads s c f None p = reads_to u b v r (by_no_tag u b p)

    from_reads : (v u : List ℕ) (s : Stack B.H) (c : B.H) → AllReadable A B n u → Form A B n u s c
        → Reads A B n (u ++ v) (find_from v u s c)
    unfolding find_from
    from_reads [] u s c r f = rw append-nil (reads_all r f)
    from_reads (b ∷ v) u s c r f =
        by_reads u b v (λ s c. find_from v (u ++ (b ∷ [])) s c)
        (λ s c h g. rw append_assoc at (from_reads v (u ++ (b ∷ [])) s c h g)) r s c f (class_of A b) (classed A b)

    pub find_reads : (bytes : List ℕ) → Reads A B n bytes (find bytes)
    unfolding find
    find_reads bytes = from_reads bytes [] bottom B.unit (all_readable_none A B n) (form_empty A B n)
