-- Entries that ascend (template's `precedes`): no entry stands twice, and lists whose entries ascend and are the same are equal. An entry that
-- precedes another is a row that is less (crates/rows), so the entries of a list are ascending rows, of which there is only one list for
-- given members; and the list is its rows one after another. Assumes nothing.
use mathlib.Core.Path.{◌≡◌, refl, sym, ap, ◌∙◌}
use mathlib.Core.Bool.{true, false≢true}
use mathlib.Core.List.Memᴰ
use mathlib.Core.List.{List, [], ◌∷◌, Memᴰ}
use mathlib.Core.Logic.{⊎_elim}
use Prim.Native.Nat.{ℕ, zero, suc, ◌+◌, ◌-◌, ◌*◌, ◌≤◌, ◌<◌}
use native.Mathlib.Nat.{mul_comm}
use native.Mathlib.Decide.{dec_lt}
use native.Mathlib.Omega.{arith}
use borrow.Author.Tests.{ltb-true, eqb-true}
use lib.Dec.{ltb, eqb}
use lib.ListN.{length, take, drop}
use lib.Seq.{take_all}
use Rattle.std.proofs.lemmas.Bool.{and_parts, or_cases}
use Rattle.rows.specs.Tables.{order, Ascending, row_at, rows_of, flat}
use Rattle.std.specs.declared.cmp.Ordering.TheVariants.{Less}
use Rattle.rows.proofs.OrderLaws.{order_below, order_on, less_irrefl, less_trans}
use Rattle.rows.proofs.TableLaws.{rows_length, row_zero, row_suc, row_member, member_row, flat_rows}
use Rattle.rows.proofs.SortLaws.{first_less, ascending_unique}
use Rattle.entries.specs.Entries.{precedes}
use Rattle.entries.proofs.EntryLaws.{entry, EntriesAscend}
use Rattle.save.specs.Entries.{Entry, SameEntries}
use Rattle.save.proofs.HoldLaws.{entry_below, below_entry}

-- ---- entries as rows

pub precedes_less : (x y : List ℕ) → precedes x y ≡ true → order x y ≡ Less
unfolding precedes
precedes_less [] y e = absurd (false≢true e)
precedes_less (x ∷ xs) [] e = absurd (false≢true e)
precedes_less (x ∷ xs) (y ∷ ys) e =
    ⊎_elim (λ l. order_below x y xs ys (ltb-true x y l))
    (λ r. let h = and_parts (eqb x y) _ r in order_on x y xs ys (eqb-true x y h.0) ∙ precedes_less xs ys h.1) (or_cases (ltb x y) _ e)

pub entry_row : (w : ℕ) (l : List ℕ) (i : ℕ) → entry w l i ≡ row_at w l i
entry_row w l i = ap (λ (k : ℕ). take w (drop k l)) (mul_comm w i)

-- rows one by one
abbrev RowsAscend : ℕ → ℕ → List ℕ → Type 0
RowsAscend w n l = (i : ℕ) → suc i < n → order (row_at w l i) (row_at w l (suc i)) ≡ Less

entries_rows : (w n : ℕ) (l : List ℕ) → EntriesAscend w n l → RowsAscend w n l
entries_rows w n l s i h = rw (← entry_row w l i, ← entry_row w l (suc i)) (precedes_less (entry w l i) (entry w l (suc i)) (s i h))

rows_ascending : (w n : ℕ) (l : List ℕ) → RowsAscend w n l → Ascending (rows_of w n l)
unfolding rows_of
rows_ascending w zero l s = tt
rows_ascending w (suc zero) l s = (tt, tt)
rows_ascending w (suc (suc n)) l s = (
  rw (row_zero w l, ← row_suc w l 0, row_zero w (drop w l)) at (s 0 (omega arith)),
  rows_ascending w (suc n) (drop w l) (λ i h. rw (row_suc w l i, row_suc w l (suc i)) (s (suc i) (omega arith))),
)

-- ---- each entry once

module _ (w n : ℕ) (l : List ℕ) (s : EntriesAscend w n l) where
  -- an earlier entry is less than every later one
  earlier_less : (i k : ℕ) → i + suc k < n → order (row_at w l i) (row_at w l (i + suc k)) ≡ Less
  earlier_less i zero h = let e : i + 1 ≡ suc i = omega arith in rw e (entries_rows w n l s i (omega arith))
  earlier_less i (suc k) h =
      let e : i + suc (suc k) ≡ suc (i + suc k) = omega arith in
      rw e
      (less_trans (row_at w l i) (row_at w l (i + suc k)) (row_at w l (suc (i + suc k))) (earlier_less i k (omega arith))
      (entries_rows w n l s (i + suc k) (omega arith)))

  before : (i j : ℕ) → i < j → j < n → order (row_at w l i) (row_at w l j) ≡ Less
  before i j h k = let e : j ≡ i + suc (j - suc i) = omega arith in rw e (earlier_less i (j - suc i) (omega arith))

  pub ascending_once : (i j : ℕ) → i < n → j < n → entry w l i ≡ entry w l j → i ≡ j
  ascending_once i j hi hj e = at (dec_lt i j) (dec_lt j i)
    where
      same : row_at w l i ≡ row_at w l j
      same = sym (entry_row w l i) ∙ e ∙ entry_row w l j

      at : Dec (i < j) → Dec (j < i) → i ≡ j
      at (yes h) d = absurd (less_irrefl (row_at w l j) (rw same at (before i j h hj)))
      at (no h) (yes k) = absurd (less_irrefl (row_at w l j) (rw same at (before j i k hi)))
      at (no h) (no k) = omega arith

-- ---- one list for given entries

module _ (w n : ℕ) (l : List ℕ) (whole : length l ≡ w * n) where
  pub entry_member : (e : List ℕ) → Entry w l e → Memᴰ e (rows_of w n l)
  entry_member e (i, h, is) = Memᴰ.cast is (row_member w i n l (entry_below w n l whole i h))

  pub member_entry : 0 < w → (e : List ℕ) → Memᴰ e (rows_of w n l) → Entry w l e
  member_entry positive e m = let (i, h, is) = member_row w e n l m in (i, below_entry w n l whole positive i h, is)

  list_flat : l ≡ flat (rows_of w n l)
  list_flat = sym (flat_rows w n l ∙ take_all (n * w) l (omega (arith, mul_comm w n)))

pub ascending_same : (w n m : ℕ) (l k : List ℕ) → 0 < w → length l ≡ w * n → length k ≡ w * m → EntriesAscend w n l → EntriesAscend w m k
    → SameEntries w l k → l ≡ k
ascending_same w n m l k positive whole-l whole-k s t same =
    list_flat w n l whole-l
    ∙ ap flat
    (ascending_unique (rows_of w n l) (rows_of w m k) (rows_ascending w n l (entries_rows w n l s))
    (rows_ascending w m k (entries_rows w m k t))
    (λ e p. entry_member w m k whole-k e ((same e).0 (member_entry w n l whole-l positive e p)))
    (λ e p. entry_member w n l whole-l e ((same e).1 (member_entry w m k whole-k positive e p))))
    ∙ sym (list_flat w m k whole-k)

-- ---- no more entries than there are different ones

rows_shorter : (xs ys : List (List ℕ)) → Ascending xs → Ascending ys → ((r : List ℕ) → Memᴰ r xs → Memᴰ r ys)
    → length xs ≤ length ys
rows_shorter [] ys s t f = omega arith
rows_shorter (x ∷ xs) [] s t f = absurd (Memᴰ.not-nil (f x (Memᴰ.head refl)))
rows_shorter (x ∷ xs) (y ∷ ys) (a, s) (b, t) f =
    ⊎_elim (λ (e : x ≡ y). let h = rows_shorter xs ys s t (λ r p. behind e r p) in omega arith)
    (λ q. let h = rows_shorter (x ∷ xs) ys (a, s) t (λ r p. past q r p) in omega arith)
    (Memᴰ.cases_cons (f x (Memᴰ.head refl)))
  where
    behind : x ≡ y → (r : List ℕ) → Memᴰ r xs → Memᴰ r ys
    behind e r p =
        ⊎_elim (λ (k : r ≡ y). absurd (less_irrefl x (rw (k ∙ sym e) at (first_less x xs a s r p)))) (λ q. q)
        (Memᴰ.cases_cons (f r (Memᴰ.tail p)))

    not_below : Memᴰ x ys → (r : List ℕ) → Memᴰ r (x ∷ xs) → order y r ≡ Less
    not_below q r p =
        ⊎_elim (λ (k : r ≡ x). rw k (first_less y ys b t x q))
        (λ m. less_trans y x r (first_less y ys b t x q) (first_less x xs a s r m)) (Memᴰ.cases_cons p)

    past : Memᴰ x ys → (r : List ℕ) → Memᴰ r (x ∷ xs) → Memᴰ r ys
    past q r p =
        ⊎_elim (λ (k : r ≡ y). absurd (less_irrefl y (rw k at (not_below q r p)))) (λ m. m) (Memᴰ.cases_cons (f r p))

pub ascending_shorter : (w n m : ℕ) (l k : List ℕ) → 0 < w → length l ≡ w * n → length k ≡ w * m → EntriesAscend w n l
    → EntriesAscend w m k → ((e : List ℕ) → Entry w l e → Entry w k e) → n ≤ m
ascending_shorter w n m l k positive whole-l whole-k s t there =
    let h =
    rows_shorter (rows_of w n l) (rows_of w m k) (rows_ascending w n l (entries_rows w n l s))
    (rows_ascending w m k (entries_rows w m k t))
    (λ e p. entry_member w m k whole-k e (there e (member_entry w n l whole-l positive e p))) in
    omega (arith, rows_length w n l, rows_length w m k)
