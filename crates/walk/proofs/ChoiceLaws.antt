-- The slot of a rule's place, in the words of the code: its length tells whether the place is used, and its byte what stands there. Assumes
-- nothing.
use mathlib.Core.Path.{◌≡◌}
use mathlib.Core.List.{List}
use Prim.Native.Nat.{ℕ, ◌+◌, ◌*◌}
use native.Mathlib.Omega.{arith}
use lib.Dec.{ltb}
use lib.ListN.{get_or}
use Rattle.numbers.specs.Fields.{field}
use Rattle.pairs.specs.Slots.{slot_of, slot_at}
use Rattle.pairs.specs.declared.Slot.{Slot}

pub rule_slot : (rules : List ℕ) (i place long : ℕ) (s : Slot) → long ≡ get_or rules (i * 4 + 1) 0
    → s ≡ slot_of (ltb place long) (get_or rules (i * 4 + 2 + place) 0) → s ≡ slot_at rules i place
unfolding field
rule_slot rules i place long s told e =
    let at : i * 4 + 2 + place ≡ i * 4 + (2 + place) = omega arith in
    rw (told, at) at e
