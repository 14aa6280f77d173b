-- The two places of a rule's right side, and the forms that each can take from the rows of a book. Rules, section 4: behind a rule's left
-- side and length stand two symbols; an image of a nonterminal is a row of it.
use Rattle.std.specs.Prelude.{◌≡◌, Bool, true, false, cond, List, ℕ, ◌+◌, ◌-◌, ◌<◌, ltb}
use Rattle.numbers.specs.Fields.{field}
use Rattle.words.specs.Tags.{Tag, start, end}
use Rattle.words.specs.Reduced.{Stack, bottom, push}
use Rattle.words.specs.declared.Tag as class
use Rattle.words.specs.declared.Tag.TheVariants.{Start, End}
use Rattle.pieces.specs.declared.Piece.{Piece}
use Rattle.worktable.specs.Packed.{RowOf}
use Rattle.pairs.specs.Books.{Book, table_row}
use Rattle.pairs.specs.declared.Slot.{Slot}
use Rattle.pairs.specs.declared.Slot.TheVariants.{Absent, Single, Rows}

-- what stands at a place that is used or not: nothing, a tag, or a nonterminal
unfoldable pub slot_of : Bool → ℕ → Slot
slot_of used b =
    cond used (cond (ltb b 32) (Single (Start b)) (cond (ltb b 64) (Single (End (b - 32))) (Rows (b - 64)))) Absent

-- the slots of rule i: that of its first place, and that of its second
abbrev pub slot_at : List ℕ → ℕ → ℕ → Slot
slot_at rules i place = slot_of (ltb place (field rules i 1)) (field rules i (2 + place))

abbrev pub left_slot : List ℕ → ℕ → Slot
left_slot rules i = slot_at rules i 0

abbrev pub right_slot : List ℕ → ℕ → Slot
right_slot rules i = slot_at rules i 1

-- the tag that a byte spells
abbrev pub tag_in : class.Tag → Tag
tag_in (Start a) = start a
tag_in (End a) = end a

-- choice k of a slot is this form: the empty word's, a tag's own, or that of row k, where it is a row of the nonterminal
abbrev pub Choice : Piece → Book → Slot → ℕ → Stack Piece → Piece → Type 0
Choice empty b Absent k s c = (k ≡ 0) × (s ≡ bottom) × (c ≡ empty)
Choice empty b (Single a) k s c = (k ≡ 0) × (s ≡ push bottom empty (tag_in a)) × (c ≡ empty)
Choice empty b (Rows x) k s c = (k < b.rows) × RowOf (table_row b.table k) x s c

-- how many choices a slot has among n rows, and from which on they are new: those of the last round, or all in the first
abbrev pub choices : Slot → ℕ → ℕ
choices Absent n = 1
choices (Single a) n = 1
choices (Rows x) n = n

abbrev pub new_from : Slot → ℕ → Bool → ℕ
new_from Absent prev true = 0
new_from Absent prev false = 1
new_from (Single a) prev true = 0
new_from (Single a) prev false = 1
new_from (Rows x) prev first = prev
