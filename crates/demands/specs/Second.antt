-- Demand 2 (Rules, section 12): a page gets 0 exactly where its file is sound, nothing is refused while it is read, and it is valid; a
-- fragment gets exactly its reduced form; joining gives the summary of the two in a row, or refuses by name. Said of the answer a and of
-- the summary that came with it, as demand 1 is.
use Rattle.std.specs.Prelude.{◌≡◌, List, [], ◌∷◌, ◌++◌, ◌↔◌, ◌⊎◌, ℕ, suc, ◌≤◌, ◌<◌, ℤ, pos, neg_ℤ, ◌-ℤ◌}
use Rattle.words.specs.Tags.{Tag, start, end}
use Rattle.words.specs.Balance.{Balanced, Mismatched}
use Rattle.words.specs.Reduced.{Stack, bottom, push, EndsFirst, tags, Reduced}
use Rattle.words.specs.Outermost.{OutermostOf}
use Rattle.hedge.specs.Schema.{most_states, Schema, Valid}
use Rattle.hedge.specs.Relation.{RelationOf}
use Rattle.pieces.specs.declared.Piece.{Piece}
use Rattle.pieces.specs.Pieces.{most_tags}
use Rattle.template.specs.Layout.{name_count}
use Rattle.template.specs.Order.{IsSound}
use Rattle.reader.specs.Reads.{Spelled, AllReadable}
use Rattle.schema.specs.Schemas.{schema_of, binoid_of}
use Rattle.form.specs.Held.{form_of, last_of}
use Rattle.form.specs.declared.Summary.{Summary}
use Rattle.summary.specs.Words.{SummaryOf}

-- the file is sound, and nothing is refused while the bytes are read
abbrev pub Unrefused : List ℕ → List ℕ → Type 0
Unrefused f bytes = IsSound f × AllReadable (name_count f) (binoid_of f) most_tags bytes

-- ---- pages

-- 0 exactly where nothing is refused and the bytes spell a word that is balanced and derived, with exactly one outermost element
abbrev pub PageJudged : List ℕ → List ℕ → ℕ → Type 0
PageJudged f bytes a = (a ≡ 0) ↔ (Unrefused f bytes × ((w : List Tag) × Spelled (name_count f) bytes w × Valid (schema_of f) w))

-- ---- fragments

-- 0 exactly where nothing is refused, and then the summary is that of the word that the bytes spell
pub record FragmentReduced (f bytes : List ℕ) (a : ℕ) (s : Summary) : Type 0 where
  pub summarised : (a ≡ 0) ↔ Unrefused f bytes
  pub reduced_form : a ≡ 0 → (w : List Tag) × Spelled (name_count f) bytes w × SummaryOf f w s

-- ---- what a relation and its count mean

-- the relation has exactly the state pairs (X, Z) such that X derives the factor, which is balanced, followed by Z; and the count is that of
-- the factor's outermost elements
abbrev pub Relates : Schema → List Tag → Piece → Type 0
Relates S w p = Balanced w × RelationOf most_states S w p.relation × OutermostOf w p.outermost

-- the word is its balanced factors with the unmatched tags between them, each factor with its relation and count
pub data Factored (S : Schema) : List Tag → Stack Piece → Piece → Type 0 where
  one_factor : {w : List Tag} {p : Piece} → Relates S w p → Factored S w bottom p
  one_more : {u v : List Tag} {s : Stack Piece} {h p : Piece} (t : Tag) → Factored S u s h → Relates S v p
      → Factored S (u ++ (t ∷ v)) (push s h t) p

-- the summary of a word: ends before starts, and every relation and count is that of its factor
abbrev pub RelationsMean : Type 0
RelationsMean =
    (f : List ℕ) (w : List Tag) (s : Summary) → IsSound f → SummaryOf f w s
    → EndsFirst (form_of s) × Factored (schema_of f) w (form_of s) (last_of s)

-- ---- joins

-- of the summaries of any two words, also of those that were joined: 0 exactly where the two in a row reduce to at most 16 tags, and then
-- their summary; 11 exactly where they are mismatched; 12 exactly where they reduce to more than 16 tags
pub record Joined (f : List ℕ) (u v : List Tag) (a : ℕ) (s : Summary) : Type 0 where
  pub fits : (a ≡ 0) ↔ ((t : Stack Piece) × (c : Piece) × Reduced (binoid_of f) (u ++ v) t c × (tags t ≤ most_tags))
  pub end_to_end : a ≡ 0 → SummaryOf f (u ++ v) s
  pub mismatch : (a ≡ 11) ↔ Mismatched (u ++ v)
  pub too_deep : (a ≡ 12) ↔ ((t : Stack Piece) × (c : Piece) × Reduced (binoid_of f) (u ++ v) t c × (most_tags < tags t))

abbrev pub JoinReduced : List ℕ → Summary → Summary → ℕ → Summary → Type 0
JoinReduced f left right a s = IsSound f → (u v : List Tag) → SummaryOf f u left → SummaryOf f v right → Joined f u v a s

-- ---- net depth

-- how many start tags, and how many end tags, a word has
unfoldable pub opened : List Tag → ℕ
opened [] = 0
opened (start a ∷ w) = suc (opened w)
opened (end a ∷ w) = opened w

unfoldable pub closed : List Tag → ℕ
closed [] = 0
closed (start a ∷ w) = closed w
closed (end a ∷ w) = suc (closed w)

-- starts minus ends, from -16 to 16; at the limits and at 0 exactly; and of the summary of a word, its start tags minus its end tags
pub record Depth (f : List ℕ) (s : Summary) (a : ℕ) (z : ℤ) : Type 0 where
  pub difference : a ≡ 0 → z ≡ pos s.counts.starts -ℤ pos s.counts.ends
  pub within : (k : ℕ) × (k ≤ most_tags) × ((z ≡ pos k) ⊎ (z ≡ neg_ℤ (pos k)))
  pub most : a ≡ 0 → (z ≡ pos most_tags) ↔ ((s.counts.starts ≡ most_tags) × (s.counts.ends ≡ 0))
  pub least : a ≡ 0 → (z ≡ neg_ℤ (pos most_tags)) ↔ ((s.counts.ends ≡ most_tags) × (s.counts.starts ≡ 0))
  pub none : a ≡ 0 → (z ≡ pos 0) ↔ (s.counts.starts ≡ s.counts.ends)
  pub of_word : a ≡ 0 → (w : List Tag) → SummaryOf f w s → z ≡ pos (opened w) -ℤ pos (closed w)
