-- The check's reply in numbers (Rules, section 9): the answer, its further number, the images.
use Rattle.std.specs.Prelude.{ℕ, Ok, Err}
use Rattle.rounds.specs.declared.CheckRefusal.TheVariants.{Mismatch, Invalid, TooDeep, Crowded, OutOfRounds}
use Rattle.rounds.specs.declared.CheckRefusal.TheVariants.{NoPage, BadFile, BadBudget, ShortTable}
use Rattle.rounds.specs.Replies.{CheckReply}

abbrev pub answer : CheckReply → ℕ
answer (Ok p) = 0
answer (Err (Mismatch r)) = 1
answer (Err (Invalid r)) = 2
answer (Err (TooDeep r)) = 3
answer (Err (Crowded r)) = 4
answer (Err (OutOfRounds b)) = 5
answer (Err NoPage) = 6
answer (Err (BadFile p)) = 7
answer (Err BadBudget) = 8
answer (Err ShortTable) = 9

abbrev pub number : CheckReply → ℕ
number (Ok p) = p.rounds
number (Err (Mismatch r)) = r
number (Err (Invalid r)) = r
number (Err (TooDeep r)) = r
number (Err (Crowded r)) = r
number (Err (OutOfRounds b)) = b
number (Err NoPage) = 0
number (Err (BadFile p)) = p
number (Err BadBudget) = 0
number (Err ShortTable) = 0

-- images are counted for a pass only
abbrev pub images : CheckReply → ℕ
images (Ok p) = p.images
images (Err e) = 0
