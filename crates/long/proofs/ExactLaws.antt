-- How many template rules the ordinary file has: one for each long rule and one for each new nonterminal. The file's rules, as a list,
-- stand among the parts and the parts among them, and none stands twice in either list; so neither is longer. Assumes nothing.
use mathlib.Core.Path.{◌≡◌}
use mathlib.Core.Logic.{◌↔◌}
use mathlib.Core.List.{List, Memᴰ}
use Prim.Native.Nat.{ℕ, ◌+◌, ◌*◌, ◌≤◌}
use native.Mathlib.Omega.{arith}
use lib.ListN.{length}
use Rattle.template.specs.Layout.{nonterminals, rule_count, template_rules_of, template_rules}
use Rattle.template.specs.Order.{SoundOf, IsSound}
use Rattle.template.proofs.SoundLaws.{SoundFile, sound_file, sound_file_of}
use Rattle.entries.proofs.EntryLaws.{entry}
use Rattle.template.proofs.ListLaws.{rules_length}
use Rattle.template.proofs.AscendingLaws.{rules_ascending}
use Rattle.trees.specs.Events.{Distinct}
use Rattle.trees.proofs.DistinctLaws.{distinct_length}
use Rattle.save.specs.Entries.{Entry}
use Rattle.save.proofs.AscendLaws.{ascending_once}
use Rattle.long.specs.Rules.{long_symbols, long_count, extras, IsPart, all_parts}
use Rattle.long.proofs.BelowLaws.{long-count}
use Rattle.long.proofs.ListedLaws.{listed, listed_length, listed_in, listed_out, listed_distinct}
use Rattle.long.proofs.CountLaws.{all_parts_length, all-parts}
use Rattle.long.proofs.DistinctLaws.{all_parts_distinct}

-- ---- the template rules of an ordinary file

abbrev rule_list : List ℕ → List (List ℕ)
rule_list g = listed (entry 4 (template_rules g)) (rule_count g)

module _ (g : List ℕ) (s : SoundFile g) where
  rule_list_distinct : Distinct (rule_list g)
  rule_list_distinct =
      listed_distinct (entry 4 (template_rules g)) (rule_count g) (ascending_once 4 (rule_count g) (template_rules g) (rules_ascending g s))

  rule-list : (e : List ℕ) → Memᴰ e (rule_list g) ↔ Entry 4 (template_rules g) e
  rule-list e = (there, back)
    where
      there : Memᴰ e (rule_list g) → Entry 4 (template_rules g) e
      there m =
          let (i, h, d) = listed_out (entry 4 (template_rules g)) (rule_count g) e m in
          let turned : 4 * i ≡ i * 4 = omega arith in
          (i, omega (arith, rules_length g s), rw turned at d)

      back : Entry 4 (template_rules g) e → Memᴰ e (rule_list g)
      back (i, h, d) =
          let turned : 4 * i ≡ i * 4 = omega arith in
          let same : e ≡ entry 4 (template_rules g) i = rw turned d in
          rw same (listed_in (entry 4 (template_rules g)) (rule_count g) i (omega (arith, rules_length g s)))

-- ---- the parts of a file of long rules

pub parts_count : (f g : List ℕ) → SoundOf long_symbols f → IsSound g → let rules = template_rules_of long_symbols f in
    ((e : List ℕ) → Entry 4 (template_rules g) e ↔ IsPart (nonterminals f) rules e)
    → rule_count g ≡ long_count rules + extras rules (long_count rules)
parts_count f g sound ordinary entries =
    let s = sound_file_of long_symbols f sound in
    let o = sound_file g ordinary in
    let rules = template_rules_of long_symbols f in
    let N = nonterminals f in
    let n = long_count rules in
    let fewer : length (rule_list g) ≤ length (all_parts N rules n) =
    distinct_length (rule_list_distinct g o) (λ e m. (all-parts N rules e).1 ((entries e).0 ((rule-list g o e).0 m))) in
    let more : length (all_parts N rules n) ≤ length (rule_list g) =
    distinct_length (all_parts_distinct f s n (omega (arith, long-count f s)))
    (λ e m. (rule-list g o e).1 ((entries e).1 ((all-parts N rules e).0 m))) in
    omega (arith, fewer, more, all_parts_length N rules n, listed_length (entry 4 (template_rules g)) (rule_count g))
