-- The two tests at a page's end, on its reduced form: that no tag is left, and that state 0 accepts what it is and it is one element. Rules,
-- section 7: until then a page is read as a fragment.
use Rattle.std.specs.Prelude.{cond, List, ltb, ℕ, Option, Some, None, Result, Ok, Err}
use Rattle.words.specs.Reduced.{Stack, bottom, push}
use Rattle.pieces.specs.declared.Piece.{Piece}
use Rattle.pieces.specs.Pieces.{accepts_piece}
use Rattle.form.specs.Held.{tag_count}
use Rattle.form.specs.declared.Counts.{Counts}
use Rattle.form.specs.declared.Flaw.{Flaw}
use Rattle.form.specs.declared.Flaw.TheVariants.{Unmatched, NotDerived}

-- the piece of what is balanced, or nothing where tags are left unmatched
unfoldable pub balance_of : Counts → Piece → Option Piece
balance_of c last = cond (ltb 0 (tag_count c)) None (Some last)

-- a page's form, one with tags left, or one that is balanced and not derived, or not one element
unfoldable pub ending_of : List ℕ → Stack Piece → Piece → Result Unit Flaw
ending_of lore bottom last = cond (accepts_piece lore last) (Ok tt) (Err NotDerived)
ending_of lore (push s h t) last = Err Unmatched
