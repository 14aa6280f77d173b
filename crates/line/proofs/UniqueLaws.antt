-- The promise determines the line and the worktable, since the check comes to one reply, and the line's text. Assumes nothing.
use mathlib.Core.Path.{◌≡◌, sym, ap, ◌∙◌}
use mathlib.Core.List.{List}
use Prim.Native.Nat.{ℕ}
use Rattle.rounds.specs.Checks.{most_rounds}
use Rattle.rounds.specs.Answers.{answer, number, images}
use Rattle.rounds.proofs.UniqueLaws.{check_unique}
use Rattle.line.specs.Lines.{Shows, Prints}
use Rattle.line.specs.declared.Line.{Line}
use Rattle.line.specs.declared.Text.{Text}

pub line_unique : (f t : List ℕ) (l l' : Line) (t' t'' : List ℕ) → Prints f t l t' → Prints f t l' t'' → (l ≡ l') × (t' ≡ t'')
line_unique f t l l' t' t'' p q =
    let (e, d) = check_unique f t most_rounds p.reply q.reply t' t'' p.says q.says in
    let answers = p.answer_is ∙ ap answer e ∙ sym q.answer_is in
    let numbers = p.number_is ∙ ap number e ∙ sym q.number_is in
    let images_same = p.images_is ∙ ap images e ∙ sym q.images_is in
    (λ i. record { answer = answers i; number = numbers i; images = images_same i }, d)

pub shows_unique : (t t' : Text) (text : List ℕ) → Shows t text → Shows t' text → t ≡ t'
shows_unique t t' text a b =
    λ i. record { bytes = (a.bytes_are ∙ sym b.bytes_are) i; len = (a.length_is ∙ sym b.length_is) i }
