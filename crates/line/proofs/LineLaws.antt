-- What is written over a list (specs/Lines.antt): nothing; one entry more behind what is written; two texts one behind the other. Then what
-- the code has at each turn and each call: `spells` for the digits of a number, `ends` for a number and its last byte. Assumes nothing.
use mathlib.Core.Path.{◌≡◌, refl, sym, ap, ◌∙◌, subst}
use mathlib.Core.List.{List, [], ◌∷◌, ◌++◌, append_assoc}
use Prim.Native.Nat.{ℕ, suc, ◌+◌, ◌-◌, ◌/◌, ◌%◌, ◌≤◌, ◌<◌}
use native.Mathlib.Nat.{add-zero}
use native.Mathlib.Omega.{arith}
use lib.ListN.{length, set, take, drop, replicate, length-append, length-set, length-replicate, take-append-drop}
use lib.Seq.{take-set-le, drop-set-lt, drop-cons, get_or-set_same, take_at, drop-append-add, drop-drop, length-take-le, append_snoc}
use Rattle.std.proofs.lemmas.List.{drop-replicate}
use Rattle.line.specs.Decimal.{digit_zero, most_digits, digits, places, decimal}
use Rattle.line.specs.Lines.{longest_line, space, newline, line_of, over_from, Shows}
use Rattle.line.specs.declared.Text.{Text}
use Rattle.line.proofs.ReadLaws.{digits_length, decimal_length}

-- ---- written over a list

pub over_none : (at : ℕ) (out : List ℕ) → over_from at [] out ≡ out
unfolding over_from
over_none at out = rw (add-zero, take-append-drop)

pub over_last : (at : ℕ) (xs out : List ℕ) (b : ℕ) → at + length xs < length out
    → over_from at xs (set out (at + length xs) b) ≡ over_from at (xs ++ (b ∷ [])) out
unfolding over_from
over_last at xs out b h =
    let j = at + length xs in
    let long : j < length (set out j b) = rw (length-set) h in
    let rest : drop j (set out j b) ≡ b ∷ drop (suc j) out =
    drop-cons (set out j b) j 0 long ∙ rw (get_or-set_same out j b 0 h, drop-set-lt (suc j) out j b (omega arith)) in
    let end : at + length (xs ++ (b ∷ [])) ≡ suc j = rw (length-append) (omega arith) in
    rw (take-set-le at out j b (omega arith), rest, end, append_snoc xs b (drop (suc j) out))

pub over_over : (at : ℕ) (xs ys out : List ℕ) → at + length xs ≤ length out
    → over_from (at + length xs) ys (over_from at xs out) ≡ over_from at (xs ++ ys) out
unfolding over_from
over_over at xs ys out h =
    let j = at + length xs in
    let front = take at out ++ xs in
    let long : length front ≡ j = length-append (take at out) xs ∙ ap (λ (k : ℕ). k + length xs) (length-take-le at out (omega arith)) in
    let whole : take at out ++ (xs ++ drop j out) ≡ front ++ drop j out = sym (append_assoc (take at out) xs (drop j out)) in
    let head : take j (front ++ drop j out) ≡ front = take_at front (drop j out) j long in
    let tail : drop (j + length ys) (front ++ drop j out) ≡ drop (j + length ys) out =
    ap (λ (k : ℕ). drop (k + length ys) (front ++ drop j out)) (sym long) ∙ drop-append-add front (drop j out) (length ys)
    ∙ drop-drop (length ys) j out in
    let end : at + length (xs ++ ys) ≡ j + length ys = rw (length-append) (omega arith) in
    rw (whole, head, tail, end, append_assoc (take at out) xs, append_assoc xs ys)

-- ---- the digits of a number, the last one first: those still to come are written over what is there

module _ (at : ℕ) where
  pub digits_end : (i rest : ℕ) (out : List ℕ) → i ≤ at → over_from at (digits (i - at) rest) out ≡ out
  unfolding digits
  digits_end i rest out h = let e : i - at ≡ 0 = omega arith in rw e (over_none at out)

  pub digits_next : (whole out : List ℕ) (i rest : ℕ) → over_from at (digits (i - at) rest) out ≡ whole → (d end long : ℕ)
      → at < i → i ≤ end → end ≤ long → length out ≡ long → d ≡ digit_zero + rest % 10
      → over_from at (digits (i - 1 - at) (rest / 10)) (set out (i - 1) d) ≡ whole
  unfolding digits
  digits_next whole out i rest so_far d end long h most fits same is =
      let j = i - 1 - at in
      let xs = digits j (rest / 10) in
      let next : i - at ≡ suc j = omega arith in
      let place : i - 1 ≡ at + length xs = rw (digits_length j (rest / 10)) (omega arith) in
      let more = subst (λ (z : ℕ). over_from at (digits z rest) out ≡ whole) next so_far in
      ap (λ (z : ℕ). over_from at xs (set out z d)) place
      ∙ over_last at xs out d (omega (arith, place, same, most, fits))
      ∙ ap (λ (z : ℕ). over_from at (xs ++ (z ∷ [])) out) is
      ∙ more

pub ruleset spells = (digits_next, digits_end)

-- ---- a number and the byte that ends it

pub number_long : (n last : ℕ) → length (decimal n ++ (last ∷ [])) ≡ suc (places n)
number_long n last = rw (length-append, decimal_length n) (omega arith)

pub number_put : (at n last k : ℕ) (out : List ℕ) → k ≡ places n → (out' : List ℕ) → at + (most_digits + 1) ≤ length out → k ≤ most_digits
    → out' ≡ over_from at (digits k n) (set out (at + k) last) → out' ≡ over_from at (decimal n ++ (last ∷ [])) out
unfolding decimal
number_put at n last k out counted out' fits few written =
    let ds = digits (places n) n in
    let long : length ds ≡ places n = digits_length (places n) n in
    let place : at + k ≡ at + length ds = omega (arith, long, counted) in
    written
    ∙ ap (λ (z : ℕ). over_from at (digits z n) (set out (at + k) last)) counted
    ∙ ap (λ (z : ℕ). over_from at ds (set out z last)) place
    ∙ over_last at ds out last (omega (arith, long, counted))

pub ruleset ends = (number_put, number_long)

-- ---- the line

-- a number and the byte that ends it
abbrev pub ended : ℕ → ℕ → List ℕ
ended n b = decimal n ++ (b ∷ [])

ended_line : (a n m : ℕ) → (ended a space ++ ended n space) ++ ended m newline ≡ line_of a n m
ended_line a n m =
    rw (append_assoc (ended a space), append_assoc (decimal a), append_assoc (decimal n))

over_blank : (text : List ℕ) → over_from 0 text (replicate longest_line 0) ≡ text ++ replicate (longest_line - length text) 0
unfolding over_from
over_blank text = let e : 0 + length text ≡ length text = omega arith in rw (e, drop-replicate {X = ℕ} (length text) longest_line 0)

module _ (a n m second third end : ℕ) (blank one two three : List ℕ) where
  pub line_shows : blank ≡ replicate longest_line 0 → one ≡ over_from 0 (ended a space) blank
      → (second ≡ 0 + length (ended a space)) × (second ≤ 0 + (most_digits + 1))
      → two ≡ over_from second (ended n space) one
      → (third ≡ second + length (ended n space)) × (third ≤ second + (most_digits + 1))
      → three ≡ over_from third (ended m newline) two
      → (end ≡ third + length (ended m newline)) × (end ≤ third + (most_digits + 1))
      → Shows (record { bytes = three; len = end }) (line_of a n m)
  line_shows b0 b1 (s, s') b2 (t, t') b3 (e, e') =
      let A = ended a space in
      let N = ended n space in
      let M = ended m newline in
      let long : length blank ≡ longest_line = ap length b0 ∙ length-replicate {A = ℕ} longest_line 0 in
      let AN = length-append A N in
      let ANM = length-append (A ++ N) M in
      let first : two ≡ over_from 0 (A ++ N) blank = b2 ∙ rw (b1, s) (over_over 0 A N blank (omega arith)) in
      let place : third ≡ 0 + length (A ++ N) = omega (arith, AN, s, t) in
      let room : 0 + length (A ++ N) ≤ length blank = omega (arith, long, AN, s, t, t', s') in
      let second' : three ≡ over_from 0 ((A ++ N) ++ M) blank = b3 ∙ rw (first, place) (over_over 0 (A ++ N) M blank room) in
      let line = ended_line a n m in
      record {
        length_is = omega (arith, ap length line, ANM, AN, s, t, e);
        bytes_are = second' ∙ rw (line, b0) (over_blank (line_of a n m));
      }

-- the bytes that are shown are the first ones
pub shown_bytes : (t : Text) (text : List ℕ) → Shows t text → take t.len t.bytes ≡ text
shown_bytes t text s = rw (s.length_is, s.bytes_are) (take_at text (replicate (longest_line - length text) 0) (length text) refl)
