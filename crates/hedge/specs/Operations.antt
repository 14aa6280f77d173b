-- The binoid of relations, the source's operations. Rules, section 5: the empty word leads each state below Q to itself; two words lead
-- from X to Z through some state between; an element leads from X to Z by a rule X, a, Y, Z if its inner word leads Y to some ending
-- state. Each is a test on pairs first, and then the number of the pairs that pass. K is the width of a row.
use Rattle.std.specs.Prelude.{Bool, ◌&&◌, List, ℕ, ◌*◌, ◌/◌, ◌%◌, eqb, ltb, length, get_or}
use Rattle.std.specs.Int.Bits.{bit_or}
use Rattle.words.specs.Binoid.{Binoid}
use Rattle.numbers.specs.Bits.{any, number}
use Rattle.numbers.specs.Fields.{field}
use Rattle.hedge.specs.Relation.{has}

-- ---- tests on pairs

-- (x, x), x below q
unfoldable pub same : ℕ → ℕ → ℕ → Bool
same q x z = eqb x z && ltb x q

-- some y below q has (x, y) on the left and (y, z) on the right
unfoldable pub linked : ℕ → (ℕ → ℕ → Bool) → (ℕ → ℕ → Bool) → ℕ → ℕ → Bool
linked q f g x z = any q (λ y. f x y && g y z)

-- the pairs that go through y, on the left and on the right; and the pairs (x, 0)
unfoldable pub through : (ℕ → ℕ → Bool) → (ℕ → ℕ → Bool) → ℕ → ℕ → ℕ → Bool
through f g y x z = f x y && g y z

unfoldable pub first_column : (ℕ → ℕ → Bool) → ℕ → ℕ → Bool
first_column f x z = eqb z 0 && f x 0

-- (y, t) with t ending
unfoldable pub ended : List ℕ → (ℕ → ℕ → Bool) → ℕ → Bool
ended ends f y = any (length ends) (λ j. f y (get_or ends j 0))

-- the pair (x, z) alone, where t holds
unfoldable pub one_pair : Bool → ℕ → ℕ → ℕ → ℕ → Bool
one_pair t x z x' z' = t && (eqb x x' && eqb z z')

-- rule i reads x, a, y, z, and y is ended
unfoldable pub fires : List ℕ → List ℕ → ℕ → (ℕ → ℕ → Bool) → ℕ → ℕ → ℕ → Bool
fires rules ends a f i x z =
    one_pair (eqb (field rules i 1) a && ended ends f (field rules i 2)) (field rules i 0) (field rules i 3) x z

-- one of the n first rules does
unfoldable pub wrapped : List ℕ → List ℕ → ℕ → (ℕ → ℕ → Bool) → ℕ → ℕ → ℕ → Bool
wrapped rules ends a f n x z = any n (λ i. fires rules ends a f i x z)

-- ---- the number of the pairs that pass

-- bit K·x+z is f x z: of the n lowest bits, and of all
unfoldable pub lowest : ℕ → ℕ → (ℕ → ℕ → Bool) → ℕ
lowest K n f = number n (λ k. f (k / K) (k % K))

unfoldable pub relation : ℕ → (ℕ → ℕ → Bool) → ℕ
relation K f = lowest K (K * K) f

-- ---- the binoid

unfoldable pub unit : ℕ → ℕ → ℕ
unit K q = relation K (same q)

unfoldable pub compose : ℕ → ℕ → ℕ → ℕ → ℕ
compose K q r s = relation K (linked q (has K r) (has K s))

unfoldable pub wrap : ℕ → List ℕ → List ℕ → ℕ → ℕ → ℕ
wrap K rules ends a r = relation K (wrapped rules ends a (has K r) (length rules / 4))

abbrev pub relations : ℕ → ℕ → List ℕ → List ℕ → Binoid
relations K q rules ends = record { H = ℕ; unit = unit K q; compose = compose K q; wrap = wrap K rules ends }

-- the relation of all pairs of states below q, and whether one relation has every pair of another
unfoldable pub below : ℕ → ℕ → ℕ → Bool
below q x z = ltb x q && ltb z q

unfoldable pub below_bit : ℕ → ℕ → Bool
below_bit q z = ltb z q

unfoldable pub full : ℕ → ℕ → ℕ
full K q = relation K (below q)

unfoldable pub covers : ℕ → ℕ → Bool
covers s r = eqb (bit_or r s) s

-- state 0 leads to an ending state
unfoldable pub accepts : ℕ → List ℕ → ℕ → Bool
accepts K ends r = ended ends (has K r) 0
