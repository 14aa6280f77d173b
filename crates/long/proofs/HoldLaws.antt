-- The parts of a sound file of long rules pass the tests of an ordinary file's template rules, where that has the new nonterminals too.
-- Left sides and nonterminals for rests are below their number; a symbol counts in the part where it counts in the long rule
-- (`part_first`, `part_second`, by the lengths), and stays a symbol if there are more nonterminals. Assumes nothing.
use mathlib.Core.Path.{◌≡◌, refl}
use mathlib.Core.Logic.{⊎_elim}
use mathlib.Core.Bool.{Bool, true, false, or-true, cond, ◌&&◌}
use mathlib.Core.List.{List}
use Prim.Native.Nat.{ℕ, zero, suc, ◌+◌, ◌≤◌, ◌<◌, min}
use native.Mathlib.Decide.{dec_lt}
use native.Mathlib.Omega.{arith}
use lib.Dec.{ltb, leb}
use lib.ListN.{get_or}
use borrow.Author.Tests.{ltb-true, eqb-true, lt-ltb, le-ltb, le-leb}
use Rattle.numbers.proofs.TestLaws.{ext_true}
use Rattle.std.proofs.lemmas.Bool.{and_parts, or_cases}
use Rattle.entries.specs.Tests.{first_fault}
use Rattle.entries.specs.Entries.{rule_symbols, is_symbol, symbol_holds, symbol_tests, field_tests}
use Rattle.std.specs.Prelude.{Ok}
use Rattle.entries.specs.declared.Body.TheVariants.{Templates}
use Rattle.template.specs.Layout.{name_count, nonterminals, rule_count, template_rules_of}
use Rattle.template.proofs.SoundLaws.{SoundFileOf}
use Rattle.long.specs.Rules.{long_symbols, long_field, long_count, extra, extras, rest_of, part, parts}
use Rattle.long.proofs.NumberLaws.{rest_below, left_below}
use Rattle.long.proofs.BelowLaws.{symbol_byte, long-count, long_left, long_length, long_symbol}

-- ---- tests

less_same : (a b c d : ℕ) → (a < b → c < d) → (c < d → a < b) → ltb a b ≡ ltb c d
less_same a b c d there back =
    ext_true (λ e. lt-ltb c d (there (ltb-true a b e)), λ e. lt-ltb a b (back (ltb-true c d e)))

-- more nonterminals
symbol_wider : (A N M b : ℕ) → N ≤ M → is_symbol A N b ≡ true → is_symbol A M b ≡ true
symbol_wider A N M b h e =
    ⊎_elim (λ k. rw k refl)
    (λ k. ⊎_elim (λ p. rw p (or-true (ltb b A)))
    (λ p.
    let q = and_parts (leb 64 b) _ p in
    rw (q.0, lt-ltb b (64 + M) (omega (arith, ltb-true b (64 + N) q.1)), or-true (leb 32 b && ltb b (32 + A)), or-true (ltb b A)) refl)
    (or_cases (leb 32 b && ltb b (32 + A)) _ k))
    (or_cases (ltb b A) _ e)

holds_wider : (used : Bool) (A N M b : ℕ) → N ≤ M → symbol_holds used A N b ≡ true → symbol_holds used A M b ≡ true
holds_wider true A N M b h e = symbol_wider A N M b h e
holds_wider false A N M b h e = e

-- a byte
holds_byte : (used : Bool) (A M b : ℕ) → A ≤ 32 → M ≤ 64 → symbol_holds used A M b ≡ true → b < 256
holds_byte true A M b h k e = omega (arith, symbol_byte A M b h e)
holds_byte false A M b h k e = omega (arith, eqb-true b 255 e)

nonterminal_symbol : (A M y : ℕ) → y < M → is_symbol A M (64 + y) ≡ true
nonterminal_symbol A M y h =
    rw (le-leb 64 (64 + y) (omega arith), lt-ltb (64 + y) (64 + M) (omega arith), or-true (leb 32 (64 + y) && ltb (64 + y) (32 + A)))
    (or-true (ltb (64 + y) A))

-- ---- a part of a sound file

module _ (f : List ℕ) (s : SoundFileOf long_symbols f) (i t : ℕ) (h : i < rule_count f)
    (k : t < parts (template_rules_of long_symbols f) i) where
  abbrev rules : List ℕ
  rules = template_rules_of long_symbols f

  -- nonterminals of the ordinary file
  abbrev all : ℕ
  all = nonterminals f + extras rules (long_count rules)

  -- symbols of the long rule
  abbrev len : ℕ
  len = long_field rules i 1

  counted : i < long_count rules
  counted = rw (long-count f s) h

  part_first : symbol_holds (ltb 0 (min 2 len)) (name_count f) all (long_field rules i (2 + t)) ≡ true
  part_first =
      let same : ltb 0 (min 2 len) ≡ ltb t len = less_same 0 (min 2 len) t len (λ l. omega arith) (λ l. omega arith) in
      rw same (holds_wider (ltb t len) (name_count f) (nonterminals f) all (long_field rules i (2 + t)) (omega arith)
      (long_symbol f s i t h (omega (arith, long_length f s i h))))

  part_second : symbol_holds (ltb 1 (min 2 len)) (name_count f) all
      (cond (ltb (t + 2) len) (64 + rest_of (nonterminals f) rules i (suc t)) (long_field rules i (3 + t))) ≡ true
  part_second =
      elim (dec_lt t (extra rules i)) [
        | yes l ↦
            let inner = lt-ltb (t + 2) len (omega arith) in
            let used = lt-ltb 1 (min 2 len) (omega arith) in
            let new = rest_below rules (nonterminals f) i t counted l in
            rw (inner, used) (nonterminal_symbol (name_count f) all (rest_of (nonterminals f) rules i (suc t)) new)
        | no l ↦
            let last = le-ltb (t + 2) len (omega arith) in
            let next : 2 + suc t ≡ 3 + t = omega arith in
            let same : ltb 1 (min 2 len) ≡ ltb (suc t) len = less_same 1 (min 2 len) (suc t) len (λ l. omega arith) (λ l. omega arith) in
            rw (last, same) (holds_wider (ltb (suc t) len) (name_count f) (nonterminals f) all (long_field rules i (3 + t)) (omega arith)
            (rw next at (long_symbol f s i (suc t) h (omega (arith, long_length f s i h)))))
      ]

  pub part_passes : (Q : ℕ)
      → first_fault (field_tests (Templates rule_symbols) (name_count f) all Q (part (nonterminals f) rules i t) 0) ≡ Ok tt
  unfolding field_tests symbol_tests first_fault part
  part_passes Q =
      let left = lt-ltb (rest_of (nonterminals f) rules i t) all (left_below rules (nonterminals f) i t (long_left f s i h) counted k) in
      let few = le-leb (min 2 len) 2 (omega arith) in
      rw (left, few, part_first, part_second) refl

  -- its bytes are bytes
  pub part_byte : all ≤ 64 → (j : ℕ) → get_or (part (nonterminals f) rules i t) j 0 < 256
  unfolding part
  part_byte l zero = omega (arith, left_below rules (nonterminals f) i t (long_left f s i h) counted k)
  part_byte l (suc zero) = omega arith
  part_byte l (suc (suc zero)) = holds_byte (ltb 0 (min 2 len)) (name_count f) all _ s.few_names l part_first
  part_byte l (suc (suc (suc zero))) = holds_byte (ltb 1 (min 2 len)) (name_count f) all _ s.few_names l part_second
  part_byte l (suc (suc (suc (suc j)))) = omega arith
