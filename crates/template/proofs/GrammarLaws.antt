-- What the lists of a sound file name. Each field of an entry passes its test in the file, and stands in the list (`rules_field` and its
-- two like): so the schema's states, its names and its ending states are below Q, A and Q. A template rule has its left side below N, at
-- most as many symbols as it has places for, and each is a tag (its name below A) or a nonterminal (below N): a byte that passes `is_symbol`
-- stands for such a symbol, by its three cases. Where a rule has two places, they go by the rule's length. Assumes nothing.
use Rattle.std.proofs.lemmas.Bool.{and_parts, or_cases}
use mathlib.Core.Path.{◌≡◌}
use mathlib.Core.Logic.{⊎_elim}
use mathlib.Core.Bool.{true, ◌&&◌}
use mathlib.Core.List.{List, [], ◌∷◌, map}
use Prim.Native.Nat.{ℕ, zero, suc, ◌+◌, ◌*◌, ◌/◌, ◌≤◌, ◌<◌}
use native.Mathlib.Nat.{add-zero, one-mul}
use native.Mathlib.Omega.{arith}
use lib.Dec.{ltb, leb}
use lib.ListN.{length, take, length-map, length-take}
use borrow.Author.Tests.{ltb-true, leb-true, lt-ltb, le-ltb}
use Rattle.words.specs.Tags.{Tag, start, end}
use Rattle.numbers.specs.Fields.{field}
use Rattle.hedge.specs.Schema.{RulesBelow, EndsBelow}
use Rattle.entries.specs.Entries.{byte_at, rule_width, is_symbol, symbol_holds, field_tests, width}
use Rattle.entries.specs.declared.Body.TheVariants.{Templates, Schema, Endings}
use Rattle.template.specs.Layout.{name_count, nonterminals, states, rule_count, schema_count, ending_count, schema_start_of, ending_start_of}
use Rattle.template.specs.Layout.{template_rules, schema_rules_of, ending_states_of}
use Rattle.template.specs.Grammar.{Symbol, tag, nonterminal, symbol_of, right_side, Gives}
use Rattle.entries.proofs.RuleLaws.{symbol_at, rule_holds}
use Rattle.template.proofs.SoundLaws.{SoundFileOf, SoundFile}
use Rattle.template.proofs.ListLaws.{rules_count, schema_rules_count, endings_length, rules_field, schema_rules_field, endings_at}
use Rattle.entries.proofs.EntryLaws.{body_fields, fields_hold}

-- a tag of one of A names; a symbol that is such a tag or one of N nonterminals; symbols that all are
abbrev pub TagBelow : ℕ → Tag → Type 0
TagBelow A (start a) = a < A
TagBelow A (end a) = a < A

abbrev pub SymbolBelow : ℕ → ℕ → Symbol → Type 0
SymbolBelow A N (tag t) = TagBelow A t
SymbolBelow A N (nonterminal n) = n < N

abbrev pub SymbolsBelow : ℕ → ℕ → List Symbol → Type 0
SymbolsBelow A N [] = Unit {0}
SymbolsBelow A N (x ∷ xs) = SymbolBelow A N x × SymbolsBelow A N xs

-- the symbol of a byte
range_true : (low b high : ℕ) → (leb low b && ltb b high) ≡ true → (low ≤ b) × (b < high)
range_true low b high e = let p = and_parts (leb low b) _ e in (leb-true low b p.0, ltb-true b high p.1)

start_below : (A N b : ℕ) → A ≤ 32 → b < A → SymbolBelow A N (symbol_of b)
unfolding symbol_of
start_below A N b h k = rw (lt-ltb b 32 (omega arith)) k

end_below : (A N b : ℕ) → A ≤ 32 → (32 ≤ b) × (b < 32 + A) → SymbolBelow A N (symbol_of b)
unfolding symbol_of
end_below A N b h k = rw (le-ltb b 32 k.0, lt-ltb b 64 (omega arith)) (omega arith)

nonterminal_below : (A N b : ℕ) → (64 ≤ b) × (b < 64 + N) → SymbolBelow A N (symbol_of b)
unfolding symbol_of
nonterminal_below A N b k = rw (le-ltb b 32 (omega arith), le-ltb b 64 k.0) (omega arith)

pub symbol_below : (A N b : ℕ) → A ≤ 32 → is_symbol A N b ≡ true → SymbolBelow A N (symbol_of b)
symbol_below A N b h e =
    let is-end = leb 32 b && ltb b (32 + A) in
    let is-nonterminal = leb 64 b && ltb b (64 + N) in
    ⊎_elim (λ k. start_below A N b h (ltb-true b A k))
    (λ k. ⊎_elim (λ p. end_below A N b h (range_true 32 b (32 + A) p)) (λ p. nonterminal_below A N b (range_true 64 b (64 + N) p))
    (or_cases is-end _ k))
    (or_cases (ltb b A) _ e)

-- the symbols of two bytes, of which the first n count
symbols_below : (A N n x y : ℕ) → A ≤ 32 → n ≤ 2 → symbol_holds (ltb 0 n) A N x ≡ true → symbol_holds (ltb 1 n) A N y ≡ true
    → SymbolsBelow A N (map symbol_of (take n (x ∷ y ∷ [])))
symbols_below A N zero x y h k p q = tt
symbols_below A N (suc zero) x y h k p q = (symbol_below A N x h p, tt)
symbols_below A N (suc (suc zero)) x y h k p q = (symbol_below A N x h p, (symbol_below A N y h q, tt))
symbols_below A N (suc (suc (suc n))) x y h k p q = absurd (omega arith)

-- a right side has at most two symbols
pub right_length : (rules : List ℕ) (i : ℕ) → length (right_side rules i) ≤ 2
unfolding right_side
right_length rules i =
    let bytes = field rules i 2 ∷ field rules i 3 ∷ [] in
    rw (length-map (take (field rules i 1) bytes) symbol_of, length-take (field rules i 1) bytes) (omega arith)

-- the three lists of a sound file
module _ {symbols : ℕ} (f : List ℕ) (s : SoundFileOf symbols f) where
  -- a schema rule's four fields
  pub schema_rule_below : (i : ℕ) → i < schema_count f
      → (field (schema_rules_of symbols f) i 0 < states f) × (field (schema_rules_of symbols f) i 1 < name_count f)
      × (field (schema_rules_of symbols f) i 2 < states f) × (field (schema_rules_of symbols f) i 3 < states f)
  unfolding width field_tests
  schema_rule_below i h =
      let at = schema_start_of symbols f + 4 * i in
      let p = fields_hold Schema (name_count f) (nonterminals f) (states f) f (schema_start_of symbols f) (schema_count f) s.schema_rules_pass i h in
      rw (schema_rules_field f s i 0 h (omega arith), add-zero at, schema_rules_field f s i 1 h (omega arith))
      (rw (schema_rules_field f s i 2 h (omega arith), schema_rules_field f s i 3 h (omega arith)) (
        ltb-true (byte_at f at) (states f) p.0,
        ltb-true (byte_at f (at + 1)) (name_count f) p.1.0,
        ltb-true (byte_at f (at + 2)) (states f) p.1.1.0,
        ltb-true (byte_at f (at + 3)) (states f) p.1.1.1.0,
      ))

  pub schema_rules_below : RulesBelow (states f) (schema_rules_of symbols f)
  schema_rules_below i h =
      let p = schema_rule_below i (rw (schema_rules_count f s) at h) in
      (p.0, p.2, p.3)

  pub schema_names_below : (i : ℕ) → i < length (schema_rules_of symbols f) / 4 → field (schema_rules_of symbols f) i 1 < name_count f
  schema_names_below i h = (schema_rule_below i (rw (schema_rules_count f s) at h)).1

  pub endings_below : EndsBelow (states f) (ending_states_of symbols f)
  unfolding width field_tests
  endings_below j h =
      let k : j < ending_count f = rw (endings_length f s) at h in
      let at = ending_start_of symbols f + 1 * j in
      let p = fields_hold Endings (name_count f) (nonterminals f) (states f) f (ending_start_of symbols f) (ending_count f) s.endings_pass j k in
      let q = ltb-true (byte_at f at) (states f) p.0 in
      rw (endings_at f s j k) (rw (one-mul j) at q)

  -- the bytes of a template rule: its left side, its length and its symbols
  module _ (i : ℕ) (h : i < rule_count f) where
    pub rule_bytes : let at = 16 + rule_width symbols * i in (byte_at f at < nonterminals f) × (byte_at f (at + 1) ≤ symbols)
        × ((j : ℕ) → j < symbols → symbol_at (name_count f) (nonterminals f) f at j ≡ true)
    unfolding width
    rule_bytes =
        rule_holds (name_count f) (nonterminals f) f (16 + rule_width symbols * i) symbols (states f)
        (body_fields (Templates symbols) (name_count f) (nonterminals f) (states f) f 16 (rule_count f) s.rules_pass i h)

    pub rule_symbol : (j : ℕ) → j < byte_at f (16 + rule_width symbols * i + 1)
        → SymbolBelow (name_count f) (nonterminals f) (symbol_of (byte_at f (16 + rule_width symbols * i + 2 + j)))
    rule_symbol j k =
        let used = lt-ltb j (byte_at f (16 + rule_width symbols * i + 1)) k in
        symbol_below (name_count f) (nonterminals f) (byte_at f (16 + rule_width symbols * i + 2 + j)) s.few_names
        (rw used at (rule_bytes.2 j (omega (arith, rule_bytes.1))))

-- template rules of four bytes
module _ (f : List ℕ) (s : SoundFile f) where
  pub rule_below : (i : ℕ) → i < rule_count f
      → (field (template_rules f) i 0 < nonterminals f) × (field (template_rules f) i 1 ≤ 2)
      × SymbolsBelow (name_count f) (nonterminals f) (right_side (template_rules f) i)
  unfolding right_side
  rule_below i h =
      let at = 16 + 4 * i in
      let p = rule_bytes f s i h in
      let first = rw (add-zero (at + 2)) at (p.2 0 (omega arith)) in
      let third : at + 2 + 1 ≡ at + 3 = omega arith in
      let second = rw third at (p.2 1 (omega arith)) in
      rw (rules_field f s i 0 h (omega arith), add-zero at, rules_field f s i 1 h (omega arith))
      (rw (rules_field f s i 2 h (omega arith), rules_field f s i 3 h (omega arith)) (
        p.0,
        p.1,
        symbols_below (name_count f) (nonterminals f) (byte_at f (at + 1)) (byte_at f (at + 2)) (byte_at f (at + 3)) s.few_names p.1 first
            second,
      ))

  pub gives_below : (x : ℕ) (symbols : List Symbol) → Gives (template_rules f) x symbols
      → (x < nonterminals f) × (length symbols ≤ 2) × SymbolsBelow (name_count f) (nonterminals f) symbols
  gives_below x symbols g =
      let p = rule_below g.0 (rw (rules_count f s) at g).1 in
      (rw g.2 at p.0, rw g.3 at (right_length (template_rules f) g.0), rw g.3 at p.2)
