-- A list of tests, each with the place that is given where it fails: the first test that fails decides.
use Rattle.std.specs.Prelude.{Bool, true, false, List, [], ◌∷◌, ℕ, Result, Ok, Err}
use Rattle.entries.specs.declared.Fault.{Fault}
pub use Rattle.entries.specs.declared.Test.{Test}

-- what must hold, and the place that is given where it does not
abbrev pub test : Bool → ℕ → Test
test b p = record { holds = b; place = p }

-- every test holds, or the first that fails is at a place
abbrev pub Tested : Type 0
Tested = Result Unit Fault

abbrev pub fault_at : ℕ → Tested
fault_at p = Err (record { place = p })

-- the first test that fails decides
abbrev pub unless : Bool → Tested → Tested → Tested
unless true f g = g
unless false f g = f

unfoldable pub first_fault : List Test → Tested
first_fault [] = Ok tt
first_fault (t ∷ ts) = unless t.holds (fault_at t.place) (first_fault ts)

-- an earlier fault stays
abbrev pub or_then : Tested → Tested → Tested
or_then (Ok u) g = g
or_then (Err f) g = Err f
