-- Laying a file down in lent bytes: bytes over the front of a list, and a part that runs to the end and comes
-- back. A file is its head over the front, then each body over the front of the part behind. Assumes nothing.
use mathlib.Core.Path.{◌≡◌, refl, ap, ◌∙◌, sym}
use mathlib.Core.List.{List, [], ◌∷◌, ◌++◌, append_assoc, append-nil}
use Prim.Native.Nat.{ℕ, ◌+◌, ◌-◌, ◌*◌, ◌/◌, ◌%◌, ◌≤◌, ◌<◌}
use native.Mathlib.Omega.{arith}
use lib.ListN.{length, drop, take, length-append, length-drop, drop_of_length-le}
use lib.Seq.{take_all, take_at, drop_at, drop-drop, sets, sets-eq}
use borrow.Rule.Slice.PartMut.{put_mid}
use Rattle.template.specs.Layout.{first_body}
use Rattle.template.specs.declared.Shape.{Shape}
use Rattle.save.specs.Files.{numbers_of, half_bytes, head_of, file_of, head_for, file_for, over, Counted}

-- ---- a part that runs to the end

-- what it is, and the whole after it has come back
tail_is : (a : ℕ) (xs : List ℕ) → take (length xs - a) (drop a xs) ≡ drop a xs
tail_is a xs = take_all (length xs - a) (drop a xs) (omega (arith, length-drop a xs))

tail_back : (a : ℕ) (xs ys : List ℕ) → take a xs ++ (ys ++ drop (length xs - a) (drop a xs)) ≡ take a xs ++ ys
tail_back a xs ys = rw (drop_of_length-le (drop a xs) {i = length xs - a} (omega (arith, length-drop a xs)), append-nil)

-- the whole with new bytes in the part from a place on
abbrev pub back : ℕ → List ℕ → List ℕ → List ℕ
back at xs ys = take at xs ++ (ys ++ drop (length xs - at) (drop at xs))

-- a body in the part behind what is written already: both stand over the front
over_more : (done body out out₁ part : List ℕ) (at : ℕ) → at ≡ length done → out₁ ≡ over done out
    → part ≡ over body (take (length out₁ - at) (drop at out₁)) → back at out₁ part ≡ over (done ++ body) out
over_more done body out out₁ part at a e f =
    let g : drop at out₁ ≡ drop (length done) out = rw e (drop_at done (drop (length done) out) at (sym a)) in
    let k : take at out₁ ≡ done = rw e (take_at done (drop (length done) out) at (sym a)) in
    let p : part ≡ body ++ drop (length done + length body) out =
    f ∙ ap (over body) (tail_is at out₁ ∙ g) ∙ ap (λ (r : List ℕ). body ++ r) (drop-drop (length body) (length done) out) in
    tail_back at out₁ part
    ∙ rw (k, p, length-append done body) (sym (append_assoc done body (drop (length done + length body) out)))

-- ---- two bytes

pub half_laid : (at k n : ℕ) (out bytes : List ℕ) → at + 2 ≤ length out → k ≡ 2 → n < 65536 → bytes ≡ n % 256 ∷ n / 256 % 256 ∷ []
    → put_mid at k out bytes ≡ sets out at (half_bytes n)
half_laid at k n out bytes h two few are =
    let high : n / 256 % 256 ≡ n / 256 = omega arith in
    rw (two, are, high)
    (sym (sets-eq (half_bytes n) out at h ∙ append_assoc (take at out) (half_bytes n) (drop (at + 2) out)
    ∙ ap (λ (r : List ℕ). take at out ++ (half_bytes n ++ r)) (sym (drop-drop 2 at out))))

-- ---- the head

pub head_length : (A N Q rules schema endings : ℕ) → length (head_of A N Q rules schema endings) ≡ first_body
unfolding head_of
head_length A N Q rules schema endings = refl

-- the numbers and six numbers of 16 bits, one after another
pub head_laid : (A N Q rules schema endings second third : ℕ) (out o₁ o₂ o₃ o₄ o₅ o₆ o₇ : List ℕ) → first_body ≤ length out
    → o₁ ≡ sets out 0 (numbers_of A N Q) → o₂ ≡ sets o₁ 4 (half_bytes first_body)
    → o₃ ≡ sets o₂ 6 (half_bytes rules) → second ≡ first_body + 4 * rules → o₄ ≡ sets o₃ 8 (half_bytes second)
    → o₅ ≡ sets o₄ 10 (half_bytes schema) → third ≡ first_body + 4 * rules + 4 * schema → o₆ ≡ sets o₅ 12 (half_bytes third)
    → o₇ ≡ sets o₆ 14 (half_bytes endings) → o₇ ≡ head_of A N Q rules schema endings ++ drop first_body out
unfolding head_of
head_laid A N Q rules schema endings second third out o₁ o₂ o₃ o₄ o₅ o₆ o₇ h e₁ e₂ e₃ m₂ e₄ e₅ m₃ e₆ e₇ =
    rw (e₇, e₆, e₅, e₄, e₃, e₂, e₁, m₂, m₃) (sets-eq (head_of A N Q rules schema endings) out 0 h)

-- ---- the file

pub file_laid : (shape : Shape) (rules schema endings out o₁ p₁ p₂ p₃ : List ℕ) (second third : ℕ)
    → Counted shape rules schema endings → second ≡ first_body + 4 * shape.templates
    → third ≡ first_body + 4 * shape.templates + 4 * shape.schema
    → o₁ ≡ head_for shape ++ drop first_body out
    → p₁ ≡ over rules (take (length o₁ - first_body) (drop first_body o₁))
    → p₂ ≡ over schema (take (length (back first_body o₁ p₁) - second) (drop second (back first_body o₁ p₁)))
    → p₃
    ≡ over endings
    (take (length (back second (back first_body o₁ p₁) p₂) - third) (drop third (back second (back first_body o₁ p₁) p₂)))
    → back third (back second (back first_body o₁ p₁) p₂) p₃
    ≡ over (file_for shape rules schema endings) out
unfolding file_of
file_laid shape rules schema endings out o₁ p₁ p₂ p₃ second third counted e₂ e₃ h f₁ f₂ f₃ =
    let head = head_for shape in
    let size = head_length shape.names shape.nonterminals shape.states shape.templates shape.schema shape.endings in
    let a : length (head ++ rules) ≡ first_body + 4 * shape.templates = rw (length-append, size) (omega arith) in
    let b : length (head ++ rules ++ schema) ≡ first_body + 4 * shape.templates + 4 * shape.schema =
    rw (length-append, a) (omega arith) in
    let n₁ : length rules / 4 ≡ shape.templates = omega arith in
    let n₂ : length schema / 4 ≡ shape.schema = omega arith in
    let whole : head ++ rules ++ schema ++ endings ≡ head ++ (rules ++ (schema ++ endings)) =
    append_assoc (head ++ rules) schema endings ∙ append_assoc head rules (schema ++ endings) in
    let l₁ = over_more head rules out o₁ p₁ first_body (sym size) (rw size h) f₁ in
    let l₂ = over_more (head ++ rules) schema out (back first_body o₁ p₁) p₂ second (e₂ ∙ sym a) l₁ f₂ in
    let l₃ = over_more (head ++ rules ++ schema) endings out (back second (back first_body o₁ p₁) p₂) p₃ third (e₃ ∙ sym b) l₂ f₃ in
    l₃ ∙ rw (n₁, n₂, counted.endings_counted, whole)
