-- The tests of a template rule: a symbol's byte by its range, the symbols from one on (none left, a fault, one further), the two fields before
-- them, and what holds where none fails. Each law opens the definition once; `symbols_hold` goes by induction on the symbols left. Assumes nothing.
use mathlib.Core.Path.{◌≡◌}
use mathlib.Core.Bool.{Bool, true, false}
use mathlib.Core.List.{List, [], ◌∷◌}
use Prim.Native.Nat.{ℕ, zero, suc, ◌+◌, ◌-◌, ◌≤◌, ◌<◌}
use native.Mathlib.Numerals.{add-one}
use native.Mathlib.Omega.{arith}
use lib.Dec.{ltb}
use borrow.Author.Tests.{lt-ltb, le-ltb, le-leb, lt-leb, ltb-true, leb-true}
use Rattle.entries.specs.Entries.{byte_at, is_symbol, symbol_holds, symbol_tests, field_tests}
use Rattle.std.specs.Prelude.{Ok}
use Rattle.entries.specs.Tests.{test, Tested, first_fault}
use Rattle.entries.specs.declared.Body.TheVariants.{Templates}
use Rattle.entries.proofs.OrderLaws.{first_ok}

-- is a byte a symbol, by its range

module _ (A N b : ℕ) where
  pub byte_start : b < A → true ≡ is_symbol A N b
  byte_start h = rw (lt-ltb _ _ h)

  pub byte_below_ends : A ≤ b → b < 32 → false ≡ is_symbol A N b
  byte_below_ends h k = rw (le-ltb b A h, lt-leb 32 b k, lt-leb 64 b (omega arith))

  pub byte_end : A ≤ b → 32 ≤ b → b < 32 + A → true ≡ is_symbol A N b
  byte_end h k l = rw (le-ltb b A h, le-leb 32 b k, lt-ltb b (32 + A) l)

  pub byte_below_nonterminals : 32 + A ≤ b → b < 64 → false ≡ is_symbol A N b
  byte_below_nonterminals h k = rw (le-ltb b A (omega arith), le-leb 32 b (omega arith), le-ltb b (32 + A) h, lt-leb 64 b k)

  pub byte_nonterminal : 32 + A ≤ b → 64 ≤ b → ltb b (64 + N) ≡ is_symbol A N b
  byte_nonterminal h k = rw (le-ltb b A (omega arith), le-leb 32 b (omega arith), le-ltb b (32 + A) h, le-leb 64 b k)

module _ (A N : ℕ) (f : List ℕ) (at : ℕ) where
  -- symbol j of the rule passes its test
  abbrev pub symbol_at : ℕ → Bool
  symbol_at j = symbol_holds (ltb j (byte_at f (at + 1))) A N (byte_at f (at + 2 + j))

  -- the symbols left
  module _ (symbols j : ℕ) where
    pub symbols_end : symbols ≤ j → Ok tt ≡ first_fault (symbol_tests A N f at j (symbols - j))
    unfolding symbol_tests first_fault
    symbols_end h = let none : symbols - j ≡ 0 = omega arith in rw none

    -- one more is left: its test, then those behind it
    pub symbols_next : j < symbols
        → symbol_tests A N f at j (symbols - j) ≡ test (symbol_at j) (at + 2 + j) ∷ symbol_tests A N f at (j + 1) (symbols - (j + 1))
    unfolding symbol_tests
    symbols_next h = let more : symbols - j ≡ suc (symbols - (j + 1)) = omega arith in rw (more, add-one j)

  -- the test of symbol j, by the rule's length and the symbol as they were read
  pub symbol_tested : (j : ℕ) {used : ℕ} {holds : Bool} {e : Tested} → used ≡ byte_at f (at + 1)
      → holds ≡ symbol_holds (ltb j used) A N (byte_at f (at + 2 + j)) → e ≡ first_fault (test holds (at + 2 + j) ∷ [])
      → e ≡ first_fault (test (symbol_at j) (at + 2 + j) ∷ [])
  symbol_tested j length made tested = rw (← length, ← made) tested

  -- no fault: every symbol passes
  pub symbols_hold : (j n : ℕ) → first_fault (symbol_tests A N f at j n) ≡ Ok tt → (i : ℕ) → i < n → symbol_at (j + i) ≡ true
  unfolding symbol_tests
  symbols_hold j zero e i h = absurd (omega arith)
  symbols_hold j (suc n) e zero h = let here : j + zero ≡ j = omega arith in rw here (first_ok _ _ e).0
  symbols_hold j (suc n) e (suc i) h =
      let there : suc j + i ≡ j + suc i = omega arith in
      rw there at (symbols_hold (suc j) n (first_ok _ _ e).1 i (omega arith))

  -- the whole rule
  module _ (symbols Q : ℕ) where
    -- no fault: its left side, its length, and its symbols
    pub rule_holds : first_fault (field_tests (Templates symbols) A N Q f at) ≡ Ok tt
        → (byte_at f at < N) × (byte_at f (at + 1) ≤ symbols) × ((j : ℕ) → j < symbols → symbol_at j ≡ true)
    unfolding field_tests
    rule_holds e =
        let left = first_ok _ _ e in
        let long = first_ok _ _ left.1 in (
          ltb-true (byte_at f at) N left.0,
          leb-true (byte_at f (at + 1)) symbols long.0,
          λ j h. let e : 0 + j ≡ j = omega arith in rw e at (symbols_hold 0 symbols long.1 j h),
        )
