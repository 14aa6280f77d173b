-- The line that the program prints for a file (Rules, section 11): the answer, the number and the images of a check with the largest
-- budget, in decimal, with single spaces and a newline.
use Rattle.std.specs.Prelude.{◌≡◌, List, [], ◌∷◌, ◌++◌, ℕ, ◌+◌, ◌-◌, ◌*◌, length, take, drop, replicate}
use Rattle.template.specs.Layout.{longest_file}
use Rattle.rounds.specs.Replies.{CheckReply}
use Rattle.rounds.specs.Checks.{most_rounds, CheckSays}
use Rattle.rounds.specs.Answers.{answer, number, images}
use Rattle.line.specs.Decimal.{most_digits, decimal}
use Rattle.line.specs.declared.Line.{Line}
use Rattle.line.specs.declared.Text.{Text}

-- the most bytes of a line, and how many bytes of its input the program looks at
abbrev pub longest_line : ℕ
longest_line = 3 * (most_digits + 1)

abbrev pub room : ℕ
room = longest_file + 1

-- the bytes of a space and of a newline
abbrev pub space : ℕ
space = 32

abbrev pub newline : ℕ
newline = 10

-- the line of three numbers
abbrev pub line_of : ℕ → ℕ → ℕ → List ℕ
line_of a n m = decimal a ++ (space ∷ (decimal n ++ (space ∷ (decimal m ++ (newline ∷ [])))))

-- the text of a line
abbrev pub text_of : Line → List ℕ
text_of l = line_of l.answer l.number l.images

-- entries written over those of a list from a place on
unfoldable pub over_from : ℕ → List ℕ → List ℕ → List ℕ
over_from at xs out = take at out ++ (xs ++ drop (at + length xs) out)

-- the bytes that are shown: these, and zeros behind them
pub record Shows (t : Text) (text : List ℕ) : Type 0 where
  pub length_is : t.len ≡ length text
  pub bytes_are : t.bytes ≡ text ++ replicate (longest_line - length text) 0

-- the line is that of what the check of the file answers, and the worktable is left as the check leaves it
pub record Prints (f t : List ℕ) (l : Line) (t' : List ℕ) : Type 0 where
  pub reply : CheckReply
  pub says : CheckSays f t most_rounds reply t'
  pub answer_is : l.answer ≡ answer reply
  pub number_is : l.number ≡ number reply
  pub images_is : l.images ≡ images reply
