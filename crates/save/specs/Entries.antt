-- A body of a file as entries of one width: the w bytes from each multiple of w on (Rules, section 4).
use Rattle.std.specs.Prelude.{◌≡◌, List, ◌↔◌, ℕ, ◌*◌, ◌<◌, length, take, drop}

-- e is an entry of the list
abbrev pub Entry : ℕ → List ℕ → List ℕ → Type 0
Entry w list e = (i : ℕ) × (i * w < length list) × (e ≡ take w (drop (i * w) list))

-- two lists have the same entries, in whatever order and however often
abbrev pub SameEntries : ℕ → List ℕ → List ℕ → Type 0
SameEntries w list other = (e : List ℕ) → Entry w list e ↔ Entry w other e
