-- Words and forms whose tags have names below A: a form of such a word is such a form, and joining two such forms gives one. Along the
-- tags of a word, of a form, and of the right form of a join. Assumes nothing.
use mathlib.Core.Path.{◌≡◌, subst}
use mathlib.Core.List.{List, [], ◌∷◌, ◌++◌}
use Prim.Native.Nat.{ℕ}
use native.Mathlib.Decide.{ℕ_discrete}
use Rattle.words.specs.Tags.{Tag, start, end, Spells, start_byte, end_byte}
use Rattle.words.specs.Binoid.{Binoid}
use Rattle.words.specs.Reduced.{Stack, bottom, push, Reduced, whole, after_end, after_start}
use Rattle.words.specs.Reader.{Outcome, reduced, differ, meet, step, then_tag, then_value, join}
use Rattle.template.proofs.GrammarLaws.{TagBelow}
use Rattle.reader.specs.Reads.{Spelled, spelled_none, spelled_more}

module _ (A : ℕ) where
  -- ---- words

  abbrev pub WordBelow : List Tag → Type 0
  WordBelow [] = Unit {0}
  WordBelow (t ∷ w) = TagBelow A t × WordBelow w

  pub word_parts : (u v : List Tag) → WordBelow (u ++ v) → WordBelow u × WordBelow v
  word_parts [] v h = (tt, h)
  word_parts (t ∷ u) v (k, h) = let (p, q) = word_parts u v h in ((k, p), q)

  spells_below : {b : ℕ} {t : Tag} → Spells A b t → TagBelow A t
  spells_below (start_byte n) = n.0
  spells_below (end_byte n) = n.0

  -- every byte spells a name below A
  pub spelled_below : {bytes : List ℕ} {w : List Tag} → Spelled A bytes w → WordBelow w
  spelled_below spelled_none = tt
  spelled_below (spelled_more s p) = (spells_below s, spelled_below p)

  -- ---- forms

  module _ {H : Type 0} where
    abbrev pub FormBelow : Stack H → Type 0
    FormBelow bottom = Unit {0}
    FormBelow (push s h t) = FormBelow s × TagBelow A t

    abbrev OutcomeBelow : Outcome H → Type 0
    OutcomeBelow (reduced s c) = FormBelow s
    OutcomeBelow (differ a b) = Unit {0}

  module _ (B : Binoid) where
    pub reduced_below : {w : List Tag} {s : Stack B.H} {c : B.H} → Reduced B w s c → WordBelow w → FormBelow s
    reduced_below (whole p) h = tt
    reduced_below (after_end {u = u} {v = v} {a = a} n r p) h = let (x, (y, z)) = word_parts u (end a ∷ v) h in (reduced_below r x, y)
    reduced_below (after_start {u = u} {v = v} {a = a} r p) h = let (x, (y, z)) = word_parts u (start a ∷ v) h in (reduced_below r x, y)

    -- ---- joining

    below_meet : (a b : ℕ) (d : Dec (a ≡ b)) (s : Stack B.H) (h c : B.H) → FormBelow s → OutcomeBelow (meet B a b d s h c)
    unfolding meet
    below_meet a b (yes e) s h c n = n
    below_meet a b (no e) s h c n = tt

    below_step : (s : Stack B.H) (c : B.H) (t : Tag) → FormBelow s → TagBelow A t → OutcomeBelow (step B s c t)
    unfolding step
    below_step s c (start a) n k = (n, k)
    below_step bottom c (end b) n k = (n, k)
    below_step (push s h (start a)) c (end b) (n, m) k = below_meet a b (ℕ_discrete a b) s h c n
    below_step (push s h (end a)) c (end b) n k = (n, k)

    below_tag : (o : Outcome B.H) (t : Tag) → OutcomeBelow o → TagBelow A t → OutcomeBelow (then_tag B o t)
    unfolding then_tag
    below_tag (reduced s c) t n k = below_step s c t n k
    below_tag (differ a b) t n k = tt

    below_value : (o : Outcome B.H) (h : B.H) → OutcomeBelow o → OutcomeBelow (then_value B o h)
    unfolding then_value
    below_value (reduced s c) h n = n
    below_value (differ a b) h n = tt

    below_join : (o : Outcome B.H) (s : Stack B.H) (c : B.H) → OutcomeBelow o → FormBelow s → OutcomeBelow (join B o s c)
    unfolding join
    below_join o bottom c n k = below_value o c n
    below_join o (push s h t) c n (k, m) =
        below_value (then_tag B (join B o s h) t) c (below_tag (join B o s h) t (below_join o s h n k) m)

    pub joined_below : (s r t : Stack B.H) (c d e : B.H) → FormBelow s → FormBelow r → join B (reduced s c) r d ≡ reduced t e
        → FormBelow t
    joined_below s r t c d e n k p = subst (λ o. OutcomeBelow o) p (below_join (reduced s c) r d n k)
