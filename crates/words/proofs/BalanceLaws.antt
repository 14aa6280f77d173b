-- Facts about balanced and mismatched words (specs/Balance.antt). A balanced word is elements in a row: facts about two in a row go by
-- induction on the left one, and everything else is regrouping. Assumes nothing.
use mathlib.Core.List.{List, [], ◌++◌, append_assoc}
use mathlib.Core.Logic.{◌↔◌}
use Rattle.words.specs.Tags.{Tag}
use Rattle.words.specs.Balance.{Balanced, empty, element, Dyck, nothing, in_a_row, inside, Mismatched, clash}

-- balanced words

pub balanced_append : {u v : List Tag} → Balanced u → Balanced v → Balanced (u ++ v)
balanced_append empty q = q
balanced_append (element p r) q = rw append_assoc (element p (balanced_append r q))

pub balanced_is_dyck : {w : List Tag} → Balanced w → Dyck w
balanced_is_dyck empty = nothing
balanced_is_dyck (element {a = a} p q) = rw append_assoc at (in_a_row (inside {a = a} (balanced_is_dyck p)) (balanced_is_dyck q))

pub dyck_is_balanced : {w : List Tag} → Dyck w → Balanced w
dyck_is_balanced nothing = empty
dyck_is_balanced (in_a_row p q) = balanced_append (dyck_is_balanced p) (dyck_is_balanced q)
dyck_is_balanced (inside p) = element (dyck_is_balanced p) empty

-- the source's three forms give the same words
pub balanced_dyck : {w : List Tag} → Balanced w ↔ Dyck w
balanced_dyck = (balanced_is_dyck, dyck_is_balanced)

-- mismatched words

-- a word with a mismatched word in it is mismatched
pub mismatched_factor : (x y : List Tag) {w : List Tag} → Mismatched w → Mismatched (x ++ (w ++ y))
mismatched_factor x y (clash z v p n) = simp append_assoc (rw append_assoc at (clash (x ++ z) (v ++ y) p n))

pub mismatched_append : {u : List Tag} (v : List Tag) → Mismatched u → Mismatched (u ++ v)
mismatched_append v m = mismatched_factor [] v m
