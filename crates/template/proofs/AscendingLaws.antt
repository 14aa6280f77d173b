-- The entries of each of a sound file's three lists ascend strictly: those of a body without a fault do, and the list is a part of the file
-- whose entries are the file's own. Assumes nothing.
use mathlib.Core.Path.{◌≡◌, subst}
use mathlib.Core.List.{List}
use Prim.Native.Nat.{ℕ, suc, ◌+◌, ◌*◌, ◌≤◌}
use native.Mathlib.Nat.{one-mul, mul-le-mul_left}
use native.Mathlib.Omega.{arith}
use lib.ListN.{length}
use Rattle.entries.specs.Tests.{first_fault}
use Rattle.entries.specs.Entries.{rule_width, width}
use Rattle.std.specs.Prelude.{Ok}
use Rattle.entries.specs.declared.Body.{Body}
use Rattle.entries.specs.declared.Body.TheVariants.{Templates, Schema, Endings}
use Rattle.template.specs.Layout.{name_count, nonterminals, states, rule_count, schema_count, ending_count, schema_start_of, ending_start_of}
use Rattle.template.specs.Layout.{part_of, template_rules_of, schema_rules_of, ending_states_of}
use Rattle.template.specs.Order.{body}
use Rattle.entries.proofs.EntryLaws.{EntriesAscend, body_ascends, ascends_precedes, entry_wide}
use Rattle.template.proofs.SoundLaws.{SoundFileOf}
use Rattle.template.proofs.ListLaws.{part_entry, rules_fit, schema_rules_fit}

-- the entries of a body of the file
module _ (b : Body) (f : List ℕ) (first n : ℕ) (e : first_fault (body b f first n) ≡ Ok tt) where
  pub body_ascending : first + width b * n ≤ length f → EntriesAscend (width b) n (part_of f first (width b * n))
  body_ascending h i k =
      let this : width b * suc i ≤ width b * n = mul-le-mul_left (width b) (omega arith) in
      let next : width b * suc (suc i) ≤ width b * n = mul-le-mul_left (width b) k in
      rw (part_entry f first (width b * n) (width b) i h this, part_entry f first (width b * n) (width b) (suc i) h next)
      (ascends_precedes (width b) f first i (entry_wide b)
      (body_ascends b (name_count f) (nonterminals f) (states f) f first n e (suc i) k))

-- the three lists of a sound file
module _ {symbols : ℕ} (f : List ℕ) (s : SoundFileOf symbols f) where
  pub rules_ascending : EntriesAscend (rule_width symbols) (rule_count f) (template_rules_of symbols f)
  unfolding width
  rules_ascending = body_ascending (Templates symbols) f 16 (rule_count f) s.rules_pass (rules_fit f s)

  pub schema_rules_ascending : EntriesAscend 4 (schema_count f) (schema_rules_of symbols f)
  unfolding width
  schema_rules_ascending =
      body_ascending Schema f (schema_start_of symbols f) (schema_count f) s.schema_rules_pass (schema_rules_fit f s)

  pub endings_ascending : EntriesAscend 1 (ending_count f) (ending_states_of symbols f)
  unfolding width
  endings_ascending =
      subst (λ (len : ℕ). EntriesAscend 1 (ending_count f) (part_of f (ending_start_of symbols f) len)) (one-mul (ending_count f))
      (body_ascending Endings f (ending_start_of symbols f) (ending_count f) s.endings_pass (omega arith))
