-- Why the program need not look at more of its input than `room` bytes (specs/Lines.antt): a file longer than the longest is bad, by a test
-- of its first 16 bytes or by its total length, and so is its beginning, by the same test. So the line of the beginning is the line of the
-- whole. Assumes nothing.
use mathlib.Core.Path.{◌≡◌, refl, sym, ◌∙◌}
use mathlib.Core.Bool.{false}
use mathlib.Core.List.{List, [], ◌∷◌, ◌++◌}
use Prim.Native.Nat.{ℕ, ◌+◌, ◌≤◌, ◌<◌}
use native.Mathlib.Decide.{dec_lt}
use native.Mathlib.Omega.{arith}
use lib.Dec.{leb, eqb}
use lib.ListN.{length, take}
use lib.Seq.{get_or-take, length-take-le, take_all}
use borrow.Author.Tests.{leb-true, le-leb, ne_eqb}
use Rattle.std.proofs.lemmas.Bool.{and_parts}
use Rattle.hedge.specs.Schema.{most_states}
use Rattle.entries.specs.declared.Test.{Test}
use Rattle.entries.specs.Tests.{test, first_fault, or_then}
use Rattle.entries.specs.Entries.{byte_at, rule_symbols}
use Rattle.std.specs.Prelude.{Ok, Err}
use Rattle.entries.specs.Tests.{Tested, fault_at}
use Rattle.template.specs.Layout.{most_rules, most_schema_rules, longest_file, half_at, states, rule_count, schema_count, ending_count, schema_start}
use Rattle.template.specs.Layout.{ending_start, bodies_end}
use Rattle.template.specs.Order.{head_tests, contents_tests, bodies, tests, IsSound, shape_of, reading_of, reading}
use Rattle.entries.proofs.OrderLaws.{first_append, ok_holds}
use Rattle.template.proofs.SoundLaws.{sound_file, sound_length}
use Rattle.std.specs.Prelude.{Ok, Err}
use Rattle.rounds.specs.declared.CheckRefusal.TheVariants as check
use Rattle.rounds.specs.Replies.{CheckReply}
use Rattle.rounds.specs.Checks.{most_rounds, CheckSays}
use Rattle.line.specs.Lines.{room, Prints}
use Rattle.line.specs.declared.Line.{Line}

-- ---- a file that is too long

-- the tests of the contents before that of the total length
unfoldable start_tests : List ℕ → List Test
start_tests f =
    test (eqb (half_at f 4) 16) 4
    ∷ test (leb (rule_count f) most_rules) 6
    ∷ test (eqb (half_at f 8) (schema_start f)) 8
    ∷ test (leb (schema_count f) most_schema_rules) 10
    ∷ test (eqb (half_at f 12) (ending_start f)) 12
    ∷ test (leb (ending_count f) (states f)) 14
    ∷ []

-- where those pass, the bodies end before a file that is too long does
end_before : (f : List ℕ) → first_fault (head_tests f) ≡ Ok tt → first_fault (start_tests f) ≡ Ok tt → bodies_end f ≤ longest_file
unfolding head_tests start_tests
end_before f head start =
    let h = ok_holds (head_tests f) head in
    let k = ok_holds (start_tests f) start in
    let q = leb-true (states f) most_states (and_parts (leb 1 (states f)) _ h.1.1.1.0).1 in
    let rules = leb-true (rule_count f) most_rules k.1.0 in
    let schema = leb-true (schema_count f) most_schema_rules k.1.1.1.0 in
    let ends = leb-true (ending_count f) (states f) k.1.1.1.1.1.0 in
    omega (arith, q, rules, schema, ends)

-- the test of the total length, and what comes behind it
abbrev last_tests : List ℕ → List Test
last_tests f = test (eqb (length f) (bodies_end f)) 0 ∷ bodies rule_symbols f

contents_split : (f : List ℕ) → contents_tests rule_symbols f ++ bodies rule_symbols f ≡ start_tests f ++ last_tests f
unfolding contents_tests start_tests
contents_split f = refl

tests_split : (f : List ℕ) → first_fault (tests rule_symbols f)
    ≡ or_then (first_fault (head_tests f)) (or_then (first_fault (start_tests f)) (first_fault (last_tests f)))
unfolding tests
tests_split f =
    first_append (head_tests f) (contents_tests rule_symbols f ++ bodies rule_symbols f) ∙ rw (contents_split f, first_append (start_tests f) (last_tests f))

total_fails : (f : List ℕ) → eqb (length f) (bodies_end f) ≡ false → first_fault (last_tests f) ≡ fault_at 0
unfolding first_fault
total_fails f e = rw e

-- a fault of the head, of the contents, or else the total length
abbrev long_fault : List ℕ → Tested
long_fault f = or_then (first_fault (head_tests f)) (or_then (first_fault (start_tests f)) (fault_at 0))

last_fault : (f : List ℕ) → longest_file < length f → (x y : Tested) → first_fault (head_tests f) ≡ x → first_fault (start_tests f) ≡ y
    → or_then x (or_then y (first_fault (last_tests f))) ≡ or_then x (or_then y (fault_at 0))
last_fault f long (Err x) y e d = refl
last_fault f long (Ok u) (Err x) e d = refl
last_fault f long (Ok u) (Ok v) e d =
    let far = end_before f e d in
    total_fails f (ne_eqb (length f) (bodies_end f) (λ same. omega (arith, same, far, long)))

long-fault : (f : List ℕ) → longest_file < length f → first_fault (tests rule_symbols f) ≡ long_fault f
long-fault f long = tests_split f ∙ last_fault f long (first_fault (head_tests f)) (first_fault (start_tests f)) refl refl

-- ---- its beginning

module _ (n : ℕ) (f : List ℕ) (some : longest_file < n) (long : n ≤ length f) where
  cut_length : length (take n f) ≡ n
  cut_length = length-take-le n f long

  cut_byte : (p : ℕ) → p < 16 → byte_at (take n f) p ≡ byte_at f p
  cut_byte p h = get_or-take n f p 0 (omega arith)

  cut_half : (p : ℕ) → p + 1 < 16 → half_at (take n f) p ≡ half_at f p
  unfolding half_at
  cut_half p h = rw (cut_byte p (omega arith), cut_byte (p + 1) h)

  cut_head : head_tests (take n f) ≡ head_tests f
  unfolding head_tests
  cut_head =
      rw (cut_length, le-leb 16 n (omega arith), le-leb 16 (length f) (omega arith))
      (rw (cut_byte 0 (omega arith), cut_byte 1 (omega arith), cut_byte 2 (omega arith), cut_byte 3 (omega arith)))

  cut_start : start_tests (take n f) ≡ start_tests f
  unfolding start_tests
  cut_start =
      rw (cut_half 4 (omega arith), cut_half 6 (omega arith), cut_half 8 (omega arith), cut_half 10 (omega arith))
      (rw (cut_half 12 (omega arith), cut_half 14 (omega arith), cut_byte 2 (omega arith)))

  cut_shape : shape_of (take n f) ≡ shape_of f
  cut_shape =
      rw (cut_half 6 (omega arith), cut_half 10 (omega arith), cut_half 14 (omega arith))
      (rw (cut_byte 0 (omega arith), cut_byte 1 (omega arith), cut_byte 2 (omega arith)))

  pub cut_reading : reading (take n f) ≡ reading f
  unfolding reading_of
  cut_reading =
      rw (long-fault (take n f) (omega (arith, cut_length)), long-fault f (omega arith), cut_head, cut_start, cut_shape)

  cut_bad : IsSound (take n f) → ⊥
  cut_bad s = let most = sound_length (take n f) (sound_file (take n f) s) in omega (arith, most, cut_length)

  pub cut_says : (t : List ℕ) (budget : ℕ) (r : CheckReply) (t' : List ℕ) → CheckSays (take n f) t budget r t' → CheckSays f t budget r t'
  cut_says t budget (Ok passed) t' ((_, s, _, _), _) = absurd (cut_bad s)
  cut_says t budget (Err (check.Mismatch r)) t' ((_, s, _, _), _) = absurd (cut_bad s)
  cut_says t budget (Err (check.Invalid r)) t' ((_, s, _, _), _) = absurd (cut_bad s)
  cut_says t budget (Err (check.TooDeep r)) t' ((_, s, _, _), _) = absurd (cut_bad s)
  cut_says t budget (Err (check.Crowded r)) t' ((_, s, _, _), _) = absurd (cut_bad s)
  cut_says t budget (Err (check.OutOfRounds b)) t' (_, (_, s, _, _), _) = absurd (cut_bad s)
  cut_says t budget (Err check.NoPage) t' (_, s, _, _) = absurd (cut_bad s)
  cut_says t budget (Err (check.BadFile p)) t' (lent, e, same) = (lent, sym cut_reading ∙ e, same)
  cut_says t budget (Err check.BadBudget) t' a = a
  cut_says t budget (Err check.ShortTable) t' a = a

-- ---- the line

pub room_decides : (f t : List ℕ) (l : Line) (t' : List ℕ) → Prints (take room f) t l t' → Prints f t l t'
room_decides f t l t' p =
    elim (dec_lt (length f) room) [
      | yes h ↦ let e : f ≡ take room f = sym (take_all room f (omega arith)) in rw e p
      | no h ↦
          record {
            reply = p.reply;
            says = cut_says room f (omega arith) (omega arith) t most_rounds p.reply t' p.says;
            answer_is = p.answer_is;
            number_is = p.number_is;
            images_is = p.images_is;
          }
    ]
