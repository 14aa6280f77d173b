-- Facts about the bytes of tags (specs/Tags.antt) and the classes of bytes (specs/Classes.antt). A byte below 32 can only be a start
-- tag's, one from 32 on only an end tag's, so that the tag follows from the byte by arithmetic. Assumes nothing.
use mathlib.Core.Path.{◌≡◌, refl, ap}
use Prim.Native.Nat.{ℕ, ◌+◌, ◌-◌, ◌≤◌, ◌<◌}
use native.Mathlib.Omega.{arith}
use borrow.Author.Rules.{rules}
use Rattle.words.specs.Tags.{Tag, start, end, Name, Spells, start_byte, end_byte}
use Rattle.std.specs.Prelude.{Option, None, Some}
use Rattle.words.specs.declared.Tag as class
use Rattle.words.specs.declared.Tag.TheVariants.{Start, End}
use Rattle.words.specs.Classes.{Classed}

-- the byte of a tag, as an equation

abbrev Coded : ℕ → ℕ → Tag → Type 0
Coded A b (start a) = (b ≡ a) × Name A a
Coded A b (end a) = (b ≡ 32 + a) × Name A a

spells_coded : {A b : ℕ} {t : Tag} → Spells A b t → Coded A b t
spells_coded (start_byte n) = (refl, n)
spells_coded (end_byte n) = (refl, n)

coded_spells : {A b : ℕ} (t : Tag) → Coded A b t → Spells A b t
coded_spells (start a) (e, n) = rw e (start_byte n)
coded_spells (end a) (e, n) = rw e (end_byte n)

pub spells_start : {A b a : ℕ} → Spells A b (start a) → (b ≡ a) × Name A a
spells_start s = spells_coded s

pub spells_end : {A b a : ℕ} → Spells A b (end a) → (b ≡ 32 + a) × Name A a
spells_end s = spells_coded s

-- what the tests on a byte say

pub start_spelled : {A b : ℕ} → b < 32 → b < A → Spells A b (start b)
start_spelled {A} {b} l n = coded_spells (start b) (refl, (n, l))

pub end_spelled : {A b : ℕ} → 32 ≤ b → b < 64 → b - 32 < A → Spells A b (end (b - 32))
end_spelled {A} {b} g l n = coded_spells (end (b - 32)) (omega arith, (n, omega arith))

pub low_unspelled : {A b : ℕ} → b < 32 → A ≤ b → (t : Tag) → Spells A b t → ⊥
low_unspelled l n (start a) s = let (e, (f, g)) = spells_start s in omega arith
low_unspelled l n (end a) s = let (e, (f, g)) = spells_end s in omega arith

pub high_unspelled : {A b : ℕ} → 32 ≤ b → A ≤ b - 32 → (t : Tag) → Spells A b t → ⊥
high_unspelled l n (start a) s = let (e, (f, g)) = spells_start s in omega arith
high_unspelled l n (end a) s = let (e, (f, g)) = spells_end s in omega arith

pub past_unspelled : {A b : ℕ} → 64 ≤ b → (t : Tag) → Spells A b t → ⊥
past_unspelled l (start a) s = let (e, (f, g)) = spells_start s in omega arith
past_unspelled l (end a) s = let (e, (f, g)) = spells_end s in omega arith

pub ruleset classes = (start_spelled, end_spelled, rules)

-- a byte has one tag and one class

same_tag : (A b : ℕ) (t u : Tag) → Coded A b t → Coded A b u → t ≡ u
same_tag A b (start a) (start d) (e, n) (f, m) = ap start (omega arith)
same_tag A b (start a) (end d) (e, n) (f, m) = absurd (omega arith)
same_tag A b (end a) (start d) (e, n) (f, m) = absurd (omega arith)
same_tag A b (end a) (end d) (e, n) (f, m) = ap end (omega arith)

pub spells_unique : {A b : ℕ} {t u : Tag} → Spells A b t → Spells A b u → t ≡ u
spells_unique {A} {b} {t} {u} s r = same_tag A b t u (spells_coded s) (spells_coded r)

abbrev pub tag_class : Tag → Option class.Tag
tag_class (start a) = Some (Start a)
tag_class (end a) = Some (End a)

pub classed_unique : (A b : ℕ) (r q : Option class.Tag) → Classed A b r → Classed A b q → r ≡ q
classed_unique A b (Some (Start a)) (Some (Start d)) s t = ap tag_class (spells_unique s t)
classed_unique A b (Some (Start a)) (Some (End d)) s t = ap tag_class (spells_unique s t)
classed_unique A b (Some (Start a)) None s n = absurd (n (start a) s)
classed_unique A b (Some (End a)) (Some (Start d)) s t = ap tag_class (spells_unique s t)
classed_unique A b (Some (End a)) (Some (End d)) s t = ap tag_class (spells_unique s t)
classed_unique A b (Some (End a)) None s n = absurd (n (end a) s)
classed_unique A b None (Some (Start d)) n t = absurd (n (start d) t)
classed_unique A b None (Some (End d)) n t = absurd (n (end d) t)
classed_unique A b None None n m = refl
