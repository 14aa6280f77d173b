-- The reduced form of a word, by its factorisation. The source, sections 2 and 3.2: a word that is not mismatched is balanced words
-- with unmatched end tags and then unmatched start tags between them; ν puts the value of each balanced word in its place. Rules,
-- section 6: what stays of a string when its complete elements are struck out.
use Rattle.std.specs.Prelude.{List, ◌∷◌, ◌++◌, ℕ, suc, ℤ, pos, ◌-ℤ◌}
use Rattle.words.specs.Tags.{Tag, start, end}
use Rattle.words.specs.Binoid.{Binoid, Value}

-- unmatched tags, each with the value before it; the last tag is on top. A reduced form is a stack and the value after it
pub data Stack (H : Type 0) : Type 0 where
  bottom : Stack H
  push : Stack H → H → Tag → Stack H

module _ {H : Type 0} where
  -- no start tag
  abbrev pub OnlyEnds : Stack H → Type 0
  OnlyEnds bottom = Unit {0}
  OnlyEnds (push s h (start a)) = ⊥
  OnlyEnds (push s h (end a)) = OnlyEnds s

  -- end tags first, then start tags
  abbrev pub EndsFirst : Stack H → Type 0
  EndsFirst bottom = Unit {0}
  EndsFirst (push s h (start a)) = EndsFirst s
  EndsFirst (push s h (end a)) = OnlyEnds s

  -- the predicate holds of the value before each tag
  abbrev pub GoodStack : (H → Type 0) → Stack H → Type 0
  GoodStack G bottom = Unit {0}
  GoodStack G (push s h t) = GoodStack G s × G h

  -- the number of tags; of start tags; of end tags
  unfoldable pub tags : Stack H → ℕ
  tags bottom = 0
  tags (push s h t) = suc (tags s)

  unfoldable pub starts : Stack H → ℕ
  starts bottom = 0
  starts (push s h (start a)) = suc (starts s)
  starts (push s h (end a)) = starts s

  unfoldable pub ends : Stack H → ℕ
  ends bottom = 0
  ends (push s h (start a)) = ends s
  ends (push s h (end a)) = suc (ends s)

  -- the net depth: its starts less its ends
  unfoldable pub net : Stack H → ℤ
  net s = pos (starts s) -ℤ pos (ends s)

-- the word is made of balanced words of these values with these tags between them
pub data Reduced (B : Binoid) : List Tag → Stack B.H → B.H → Type 0 where
  whole : {w : List Tag} {c : B.H} → Value B w c → Reduced B w bottom c
  after_end : {u v : List Tag} {s : Stack B.H} {h c : B.H} {a : ℕ} → OnlyEnds s → Reduced B u s h → Value B v c
      → Reduced B (u ++ (end a ∷ v)) (push s h (end a)) c
  after_start : {u v : List Tag} {s : Stack B.H} {h c : B.H} {a : ℕ} → Reduced B u s h → Value B v c
      → Reduced B (u ++ (start a ∷ v)) (push s h (start a)) c
