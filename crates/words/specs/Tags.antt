-- Tags and the bytes that stand for them. Rules, section 1: names are numbers below A, at most 32 of them; the start tag of a name
-- is spelled by the name, its end tag by 32 more.
use Rattle.std.specs.Prelude.{ℕ, ◌+◌, ◌<◌}

-- the start tag or the end tag of an element
pub data Tag : Type 0 where
  start : ℕ → Tag
  end : ℕ → Tag

-- the most element names
abbrev pub most_names : ℕ
most_names = 32

-- a is one of the A element names
abbrev pub Name : ℕ → ℕ → Type 0
Name A a = (a < A) × (a < most_names)

-- the byte is the tag's, where there are A names
pub data Spells (A : ℕ) : ℕ → Tag → Type 0 where
  start_byte : {a : ℕ} → Name A a → Spells A a (start a)
  end_byte : {a : ℕ} → Name A a → Spells A (most_names + a) (end a)
