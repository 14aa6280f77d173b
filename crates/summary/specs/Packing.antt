-- Which structs are summaries, and the reduced form that one packs. Rules, section 6: its tags are 16 or fewer, its names below A, its
-- relations within the states below Q, their counts of outermost elements at most 2, and whatever place it does not use is 0; a struct that
-- fails in any of these is no summary. That of a refusal has zeros only (section 9).
use Rattle.std.specs.Prelude.{◌≡◌, Bool, true, ◌&&◌, cond, List, ℕ, zero, suc, ◌≤◌, ◌<◌, eqb, ltb, leb, get_or, replicate}
use Rattle.words.specs.Reduced.{Stack}
use Rattle.pieces.specs.declared.Piece.{Piece}
use Rattle.pieces.specs.Pieces.{most_tags, pieces_long, piece_at, PieceWithin, fits_in, is_none}
use Rattle.form.specs.Held.{tag_count, form_of, last_of, Unused, Holds}
use Rattle.form.specs.declared.Summary.{Summary}

-- the struct packs the reduced form of these tags and this last piece
pub record Packs (s : Summary) (tags : Stack Piece) (after : Piece) : Type 0 where
  pub holds : Holds s
  pub form_is : form_of s ≡ tags
  pub last_is : last_of s ≡ after

-- a struct with A names and q states that is a summary
pub record IsSummary (A q : ℕ) (s : Summary) : Type 0 where
  pub few : tag_count s.counts ≤ most_tags
  pub named : (k : ℕ) → k < tag_count s.counts → get_or s.names k 0 < A
  pub within : (k : ℕ) → k ≤ tag_count s.counts → PieceWithin q (piece_at s.values k)
  pub unused : Unused (tag_count s.counts) s.names s.values

-- ---- the same as a test, place by place

-- every number below n passes
unfoldable pub every : ℕ → (ℕ → Bool) → Bool
every zero f = true
every (suc n) f = every n f && f n

-- a place in use holds a name below A, another 0
unfoldable pub name_fits : ℕ → ℕ → List ℕ → ℕ → Bool
name_fits A n names k = cond (ltb k n) (ltb (get_or names k 0) A) (eqb (get_or names k 0) 0)

-- a place in use holds a piece within the q states, another none
unfoldable pub piece_fits : ℕ → ℕ → List ℕ → ℕ → Bool
piece_fits q n values k = cond (leb k n) (fits_in q (piece_at values k)) (is_none (piece_at values k))

-- all zeros
unfoldable pub zeros : Summary
zeros = record { counts = record { ends = 0; starts = 0 }; names = replicate most_tags 0; values = replicate pieces_long 0 }
