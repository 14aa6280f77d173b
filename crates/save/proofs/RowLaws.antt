-- Rows that ascend (crates/rows), laid one after another, are entries that ascend: where two rows have the same length, one that is less
-- precedes the other (`less_precedes`, by induction on the bytes), and the entries of the list are the rows. Assumes nothing.
use mathlib.Core.Path.{◌≡◌, sym, ◌∙◌}
use mathlib.Core.Bool.{true}
use mathlib.Core.List.{List, [], ◌∷◌, append-nil, Memᴰ}
use mathlib.Core.Logic.{◌↔◌}
use Prim.Native.Nat.{ℕ, zero, suc, ◌*◌, ◌<◌}
use native.Mathlib.Nat.{mul_comm}
use native.Mathlib.Decide.{dec_lt}
use native.Mathlib.Omega.{arith}
use borrow.Author.Tests.{lt-ltb, le-ltb, eq-eqb}
use lib.ListN.{length, drop}
use Rattle.rows.specs.Tables.{order, Ascending, row_at, rows_of, flat}
use Rattle.std.specs.declared.cmp.Ordering.TheVariants.{Less, Equal, Greater}
use Rattle.rows.proofs.OrderLaws.{order_above, order_on, order_refl}
use Rattle.rows.proofs.TableLaws.{Wide, row_zero, row_suc, row_member, rows_wide, rows_flat, flat_length}
use Rattle.entries.specs.Entries.{precedes}
use Rattle.entries.proofs.EntryLaws.{EntriesAscend}
use Rattle.save.specs.Entries.{Entry}
use Rattle.save.proofs.AscendLaws.{entry_row, entry_member, member_entry}

-- ---- two rows

same_less : Equal ≡ Less → ⊥
same_less e = let z : ◌≡◌ {A = ℕ} 0 1 = cc in omega arith

more_less : Greater ≡ Less → ⊥
more_less e = let z : ◌≡◌ {A = ℕ} 0 1 = cc in omega arith

pub less_precedes : (x y : List ℕ) → length x ≡ length y → order x y ≡ Less → precedes x y ≡ true
unfolding precedes
less_precedes [] [] l e = absurd (same_less (sym (order_refl []) ∙ e))
less_precedes [] (y ∷ ys) l e = absurd (omega arith)
less_precedes (x ∷ xs) [] l e = absurd (omega arith)
less_precedes (x ∷ xs) (y ∷ ys) l e = at (dec_lt x y) (dec_lt y x) (less_precedes xs ys (omega arith))
  where
    at : Dec (x < y) → Dec (y < x) → (order xs ys ≡ Less → precedes xs ys ≡ true) → precedes (x ∷ xs) (y ∷ ys) ≡ true
    at (yes h) d on = rw (lt-ltb x y h)
    at (no h) (yes k) on = absurd (more_less (sym (order_above x y xs ys k) ∙ e))
    at (no h) (no k) on =
        let same : x ≡ y = omega arith in
        rw (le-ltb x y (omega arith), eq-eqb x y same) (on (sym (order_on x y xs ys same) ∙ e))

-- ---- the rows of a list, one by one

rows_ascend : (w n : ℕ) (l : List ℕ) → Ascending (rows_of w n l) → (i : ℕ) → suc i < n → order (row_at w l i) (row_at w l (suc i)) ≡ Less
unfolding rows_of
rows_ascend w zero l s i h = absurd (omega arith)
rows_ascend w (suc zero) l s i h = absurd (omega arith)
rows_ascend w (suc (suc n)) l (a, s) zero h = rw (row_zero w l, ← row_suc w l 0, row_zero w (drop w l)) a
rows_ascend w (suc (suc n)) l (a, s) (suc i) h =
    rw (← row_suc w l i, ← row_suc w l (suc i)) (rows_ascend w (suc n) (drop w l) s i (omega arith))

-- ---- rows one after another

module _ (w : ℕ) (rows : List (List ℕ)) (wide : Wide w rows) where
  rows_back : rows_of w (length rows) (flat rows) ≡ rows
  rows_back = rw (append-nil (flat rows)) at (rows_flat w rows [] wide)

  pub flat_whole : length (flat rows) ≡ w * length rows
  flat_whole = flat_length w rows wide ∙ mul_comm (length rows) w

  pub flat_entries : 0 < w → (e : List ℕ) → Entry w (flat rows) e ↔ Memᴰ e rows
  flat_entries positive e = (
    λ m. rw rows_back at (entry_member w (length rows) (flat rows) flat_whole e m),
    λ m. member_entry w (length rows) (flat rows) flat_whole positive e (rw rows_back m),
  )

  row_length : (i : ℕ) → i < length rows → length (row_at w (flat rows) i) ≡ w
  row_length i h =
      rows_wide w (length rows) (flat rows) (omega (arith, flat_length w rows wide)) (row_at w (flat rows) i)
      (row_member w i (length rows) (flat rows) h)

  pub flat_ascends : Ascending rows → EntriesAscend w (length rows) (flat rows)
  flat_ascends s i h =
      rw (entry_row w (flat rows) i, entry_row w (flat rows) (suc i))
      (less_precedes (row_at w (flat rows) i) (row_at w (flat rows) (suc i)) (row_length i (omega arith) ∙ sym (row_length (suc i) h))
      (rows_ascend w (length rows) (flat rows) (rw rows_back s) i h))
