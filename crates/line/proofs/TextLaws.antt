-- What std prints of a number is the number in decimal (specs/Decimal.antt): by one digit more at a time. A line has at most `longest_line`
-- bytes, since no number of 64 bits has more than 20 digits. Assumes nothing.
use Rattle.std.proofs.Common.{◌≡◌, sym, ℕ, ◌<◌, ◌≤◌, ◌^◌, length, length-append, arith}
use Rattle.std.specs.Fmt as std
use Rattle.std.proofs.lemmas.Fmt.{decimal_by_steps}
use Rattle.line.specs.Decimal.{decimal}
use Rattle.line.specs.Lines.{longest_line, line_of}
use Rattle.line.proofs.DecimalLaws.{places_most}
use Rattle.line.proofs.ReadLaws.{decimal_small, decimal_large, decimal_length}

pub printed : (n : ℕ) → n < 2 ^ 64 → std.decimal n ≡ decimal n
printed n h =
    decimal_by_steps (λ n ds. ds ≡ decimal n) (λ n h. sym (decimal_small n h))
    (λ n ds large e. rw e (sym (decimal_large n large))) n h

decimal_few : (n : ℕ) → n < 2 ^ 64 → length (decimal n) ≤ 20
decimal_few n h = rw (decimal_length n) (places_most 19 n (omega (arith, h)))

pub line_fits : (a n m : ℕ) → a < 2 ^ 64 → n < 2 ^ 64 → m < 2 ^ 64 → length (line_of a n m) ≤ longest_line
line_fits a n m ha hn hm =
    let la = decimal_few a ha in
    let ln = decimal_few n hn in
    let lm = decimal_few m hm in
    omega (arith, length-append {A = ℕ})
