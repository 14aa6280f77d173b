-- What reading a run of bytes finds, over A names, any binoid and at most n tags. Rules, sections 7 and 9: reading ends at the first byte
-- that is no tag (10), makes a mismatch (11) or leaves more than n tags (12); each is judged after a tag, on the reduced form of what was
-- read so far. Where no beginning is refused, the reduced form is the source's.
use Rattle.std.specs.Prelude.{◌≡◌, List, [], ◌∷◌, ◌++◌, ℕ, ◌≤◌, ◌<◌, length}
use Rattle.words.specs.Tags.{Tag, Spells}
use Rattle.words.specs.Balance.{Mismatched}
use Rattle.words.specs.Binoid.{Binoid}
use Rattle.words.specs.Reduced.{Stack, tags, Reduced}

-- the bytes are the word's tags
pub data Spelled (A : ℕ) : List ℕ → List Tag → Type 0 where
  spelled_none : Spelled A [] []
  spelled_more : {b : ℕ} {t : Tag} {bytes : List ℕ} {w : List Tag} → Spells A b t → Spelled A bytes w → Spelled A (b ∷ bytes) (t ∷ w)

-- why a beginning is refused: 10, 11, 12
pub data Reason : Type 0 where
  no_tag mismatch too_many : Reason

-- what reading finds: a reduced form, or a refusal at a place
pub data Found (H : Type 0) : Type 0 where
  whole : Stack H → H → Found H
  refused : Reason → ℕ → Found H

module _ (A : ℕ) (B : Binoid) (n : ℕ) where
  -- the bytes spell a word that reduces to these tags and this last value
  pub record Form (bytes : List ℕ) (s : Stack B.H) (c : B.H) : Type 0 where
    pub word : List Tag
    pub spelled : Spelled A bytes word
    pub reduced : Reduced B word s c

  -- the bytes are refused for nothing: they reduce to at most n tags
  pub record Readable (bytes : List ℕ) : Type 0 where
    pub tags_left : Stack B.H
    pub last_value : B.H
    pub form : Form bytes tags_left last_value
    pub few : tags tags_left ≤ n

  -- the bytes are refused because of their last one
  pub data Refused : List ℕ → Reason → Type 0 where
    by_no_tag : (bytes : List ℕ) (b : ℕ) → ((t : Tag) → Spells A b t → ⊥) → Refused (bytes ++ (b ∷ [])) no_tag
    by_mismatch : {bytes : List ℕ} {w : List Tag} → Spelled A bytes w → Mismatched w → Refused bytes mismatch
    by_depth : {bytes : List ℕ} {s : Stack B.H} {c : B.H} → Form bytes s c → n < tags s → Refused bytes too_many

  -- every beginning, the bytes themselves among them, is readable
  abbrev pub AllReadable : List ℕ → Type 0
  AllReadable bytes = (x y : List ℕ) → bytes ≡ x ++ y → Readable x

  -- the whole run, or the first byte with which it is not readable
  pub data Reads : List ℕ → Found B.H → Type 0 where
    reads_all : {bytes : List ℕ} {s : Stack B.H} {c : B.H} → AllReadable bytes → Form bytes s c → Reads bytes (whole s c)
    reads_to : (before : List ℕ) (b : ℕ) (after : List ℕ) {why : Reason} → AllReadable before → Refused (before ++ (b ∷ [])) why
        → Reads (before ++ (b ∷ after)) (refused why (length before))
