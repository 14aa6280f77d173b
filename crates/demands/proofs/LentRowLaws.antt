-- What a call leaves in a row lent for a summary (specs/First.antt): a short row as it was; else the row of the reply's summary, all its
-- entries, before the row's own rest. A refusal's summary is all zeros, and so is its row. Assumes nothing.
use mathlib.Core.Path.{◌≡◌, refl, ap, ◌∙◌}
use mathlib.Core.List.{List, ◌++◌}
use Prim.Native.Nat.{ℕ, ◌≤◌, ◌<◌}
use native.Mathlib.Decide.{dec_lt}
use native.Mathlib.Omega.{arith}
use lib.ListN.{length, drop, replicate}
use Rattle.pieces.specs.Pieces.{piece_at}
use Rattle.form.specs.declared.Summary.{Summary}
use Rattle.summary.specs.Packing.{zeros}
use Rattle.summary.specs.Answers.{fragment_answer, join_answer}
use Rattle.worktable.specs.Packed.{row_width, numbers_from, digits_in, packed}
use Rattle.worktable.proofs.PackedLaws.{packed_length}
use Rattle.ujthanor.specs.LentRows.{written}
use Rattle.ujthanor.proofs.CallLaws.{Made, fragment_made, join_made}
use Rattle.ujthanor.specs.Calls.{ShortRow, FragmentWritten, FragmentCalled, JoinWritten, JoinCalled}
use Rattle.demands.specs.First.{LentRow}
use Rattle.demands.proofs.Sides.{both, neither}
use Rattle.demands.proofs.WorktableLaws.{fronted_rest, fronted_length}

-- ---- the row of a reply's summary

zero_row : packed 0 zeros ≡ replicate row_width 0
unfolding packed numbers_from digits_in piece_at zeros
zero_row = refl

row_long : (a : ℕ) (s : Summary) → Made a s → length (packed 0 s) ≡ row_width
row_long a s made = packed_length 0 s

-- ---- the lent row

module _ (row : List ℕ) (a n : ℕ) (row' : List ℕ) where
  short_left : length row < row_width → ShortRow row a n row' → LentRow row a n row'
  short_left short call =
      record {
        short_first = both call.answer_is short;
        short_unchanged = λ _. (call.number_is, call.unchanged);
        refused_zero = λ _ few. absurd (omega (arith, few, call.answer_is));
        rest_unchanged = ap (drop row_width) call.unchanged;
        same_length = ap length call.unchanged;
      }

  written_left : (c : ℕ) (s : Summary) → row_width ≤ length row → Made c s → a ≡ c → row' ≡ written row s → LentRow row a n row'
  written_left c s room made e put =
      let low = made.low in
      record {
        short_first = neither (λ d. omega (arith, low, d, e)) (λ l. omega (arith, room, l));
        short_unchanged = λ d. absurd (omega (arith, low, d, e));
        refused_zero = λ h _.
            put ∙ ap (λ (s : Summary). written row s) (made.zero (omega (arith, h, e)))
            ∙ ap (λ (r : List ℕ). r ++ drop row_width row) zero_row;
        rest_unchanged = ap (drop row_width) put ∙ fronted_rest row_width (packed 0 s) row (row_long c s made) room;
        same_length = ap length put ∙ fronted_length row_width (packed 0 s) row (row_long c s made) room;
      }

  -- short or long enough
  by_length : (length row < row_width → ShortRow row a n row') → (row_width ≤ length row → LentRow row a n row') → LentRow row a n row'
  by_length short long = at (dec_lt (length row) row_width)
    where
      at : Dec (length row < row_width) → LentRow row a n row'
      at (yes l) = short_left l (short l)
      at (no l) = long (omega (arith, l))

pub fragment_row : (f bytes row : List ℕ) (a n : ℕ) (row' : List ℕ) → FragmentCalled f bytes row a n row' → LentRow row a n row'
fragment_row f bytes row a n row' call = by_length row a n row' call.short_row (λ l. long l (call.else_written l))
  where
    long : row_width ≤ length row → FragmentWritten f bytes row a n row' → LentRow row a n row'
    long l w =
        written_left row a n row' (fragment_answer w.reply.answer) w.reply.summary l
        (fragment_made f bytes w.reply w.says) w.answer_is w.row_is

pub join_row : (f left right row : List ℕ) (a n : ℕ) (row' : List ℕ) → JoinCalled f left right row a n row' → LentRow row a n row'
join_row f left right row a n row' call = by_length row a n row' call.short_row (λ l. long l (call.else_written l))
  where
    long : row_width ≤ length row → JoinWritten f left right row a n row' → LentRow row a n row'
    long l w =
        written_left row a n row' (join_answer w.reply.answer) w.reply.summary l
        (join_made f w.first w.second w.reply w.says) w.answer_is w.row_is
