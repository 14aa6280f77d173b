-- The template rules of a sound file of long rules. Byte j of rule i is the file's byte at that rule (`long_byte`), and the file's tests
-- say what it may be; a byte that passes as a symbol is a tag's or a nonterminal's by its three cases. Assumes nothing.
use mathlib.Core.Path.{◌≡◌}
use mathlib.Core.Logic.{⊎_elim}
use mathlib.Core.Bool.{true, ◌&&◌}
use mathlib.Core.List.{List}
use Prim.Native.Nat.{ℕ, ◌+◌, ◌*◌, ◌≤◌, ◌<◌}
use native.Mathlib.Nat.{add-zero}
use native.Mathlib.Omega.{arith}
use lib.Dec.{ltb, leb}
use borrow.Author.Tests.{ltb-true, lt-ltb}
use Rattle.std.proofs.lemmas.Bool.{and_parts, or_cases}
use Rattle.entries.specs.Entries.{byte_at, rule_width, is_symbol, symbol_holds}
use Rattle.template.specs.Layout.{name_count, nonterminals, rule_count, template_rules_of}
use Rattle.template.specs.Order.{SoundOf}
use Rattle.template.proofs.SoundLaws.{SoundFileOf, sound_file_of}
use Rattle.template.proofs.ListLaws.{rules_length, rules_byte}
use Rattle.template.proofs.GrammarLaws.{rule_bytes}
use Rattle.long.specs.Rules.{long_symbols, long_field, long_count, LongRulesBelow}

pub symbol_byte : (A N b : ℕ) → A ≤ 32 → is_symbol A N b ≡ true → b < 64 + N
symbol_byte A N b h e =
    ⊎_elim (λ k. omega (arith, ltb-true b A k))
    (λ k. ⊎_elim (λ p. omega (arith, ltb-true b (32 + A) (and_parts (leb 32 b) _ p).1)) (λ p. ltb-true b (64 + N) (and_parts (leb 64 b) _ p).1)
    (or_cases (leb 32 b && ltb b (32 + A)) _ k))
    (or_cases (ltb b A) _ e)

module _ (f : List ℕ) (s : SoundFileOf long_symbols f) where
  pub long-count : long_count (template_rules_of long_symbols f) ≡ rule_count f
  long-count = rw (rules_length f s) (omega arith)

  pub long_byte : (i j : ℕ) → i < rule_count f → j < rule_width long_symbols
      → long_field (template_rules_of long_symbols f) i j ≡ byte_at f (16 + rule_width long_symbols * i + j)
  unfolding long_field
  long_byte i j h k =
      let e : i * rule_width long_symbols + j ≡ rule_width long_symbols * i + j = omega arith in
      rw e (rules_byte f s i j h k)

  abbrev rules : List ℕ
  rules = template_rules_of long_symbols f

  pub long_left : (i : ℕ) → i < rule_count f → long_field rules i 0 < nonterminals f
  long_left i h = rw (long_byte i 0 h (omega arith), add-zero (16 + rule_width long_symbols * i)) (rule_bytes f s i h).0

  pub long_length : (i : ℕ) → i < rule_count f → long_field rules i 1 ≤ long_symbols
  long_length i h = rw (long_byte i 1 h (omega arith)) (rule_bytes f s i h).1

  pub long_symbol : (i j : ℕ) → i < rule_count f → j < long_symbols
      → symbol_holds (ltb j (long_field rules i 1)) (name_count f) (nonterminals f) (long_field rules i (2 + j)) ≡ true
  long_symbol i j h k =
      let at = 16 + rule_width long_symbols * i in
      let e : at + 2 + j ≡ at + (2 + j) = omega arith in
      rw (long_byte i 1 h (omega arith), long_byte i (2 + j) h (omega arith), ← e) ((rule_bytes f s i h).2 j k)

  pub long_symbol_below : (i j : ℕ) → i < rule_count f → j < long_field rules i 1 → long_field rules i (2 + j) < 64 + nonterminals f
  long_symbol_below i j h k =
      let used = lt-ltb j (long_field rules i 1) k in
      symbol_byte (name_count f) (nonterminals f) (long_field rules i (2 + j)) s.few_names
      (rw used at (long_symbol i j h (omega (arith, long_length i h))))

pub long-rules-below : (f : List ℕ) → SoundOf long_symbols f → LongRulesBelow (nonterminals f) (template_rules_of long_symbols f)
long-rules-below f sound =
    let s = sound_file_of long_symbols f sound in
    record {
      left_below = λ i h. long_left f s i (rw (long-count f s) at h);
      length_within = λ i h. long_length f s i (rw (long-count f s) at h);
      symbol_below = λ i j h k. long_symbol_below f s i j (rw (long-count f s) at h) k;
    }
