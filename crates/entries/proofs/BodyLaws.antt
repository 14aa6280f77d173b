-- The entries of a body from a place on: none left, one further, and the room that they take in the file.
-- Each law opens the definition once, where the number of entries left is zero or one more than another. Assumes nothing.
use mathlib.Core.Path.{◌≡◌}
use mathlib.Core.List.{List, ◌++◌}
use Prim.Native.Nat.{ℕ, zero, suc, ◌+◌, ◌*◌, ◌-◌, ◌≤◌, ◌<◌}
use native.Mathlib.Nat.{mul-suc, mul-le-mul_left}
use native.Mathlib.Omega.{arith}
use Rattle.entries.specs.Tests.{Test, first_fault}
use Rattle.entries.specs.Entries.{width, entry_tests, body_tests}
use Rattle.std.specs.Prelude.{Ok}
use Rattle.entries.specs.declared.Body.{Body}
use Rattle.entries.specs.declared.Sizes.{Sizes}
use Rattle.entries.proofs.OrderLaws.{first_none}

-- the tests of one entry, and of the n entries from a place on, by the file's three numbers

abbrev pub entry_of : Body → Sizes → List ℕ → ℕ → ℕ → List Test
entry_of b s f first at = entry_tests b s.names s.nonterminals s.states f first at

abbrev pub entries_of : Body → Sizes → List ℕ → ℕ → ℕ → ℕ → List Test
entries_of b s f first at n = body_tests b s.names s.nonterminals s.states f first at n

-- the first fault of the entries left, k entries on

module _ (b : Body) (s : Sizes) (f : List ℕ) (first count : ℕ) where
  abbrev pub rest_from : ℕ → List Test
  rest_from k = entries_of b s f first (first + width b * k) (count - k)

  pub body_all : first_fault (rest_from 0) ≡ first_fault (entries_of b s f first first count)
  body_all =
      let here : first + width b * 0 ≡ first = omega arith in
      let all : count - 0 ≡ count = omega arith in
      rw (here, all)

  pub body_end : (k : ℕ) → count ≤ k → Ok tt ≡ first_fault (rest_from k)
  unfolding body_tests
  body_end k h = let none : count - k ≡ 0 = omega arith in rw none first_none

  pub body_next : (k : ℕ) → k < count → rest_from k ≡ entry_of b s f first (first + width b * k) ++ rest_from (k + 1)
  unfolding body_tests
  body_next k h =
      let more : count - k ≡ suc (count - (k + 1)) = omega arith in
      let behind : first + width b * k + width b ≡ first + width b * (k + 1) = omega (arith, mul-suc (width b) k) in
      rw (more, behind)

-- an entry behind the first has an entry's room before it

pub behind_first : (w first k : ℕ) → first < first + w * k → w ≤ first + w * k
behind_first w first zero h = absurd (omega arith)
behind_first w first (suc k) h = omega (arith, mul-suc w k)

-- the room of the entry that is next

pub room_next : (w first k count size : ℕ) → first + w * count ≤ size → k < count → first + w * k + w ≤ size
room_next w first k count size room h =
    let more : w * suc k ≤ w * count = mul-le-mul_left w h in
    omega (arith, mul-suc w k)
