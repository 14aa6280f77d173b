-- What the reads put into the buffer, of the bytes that the reader had: each read goes on where the last one ended; at the reader's end they
-- are all of its bytes, and else, where the buffer is full, the first ones. Assumes nothing.
use Rattle.std.proofs.Common.{◌≡◌, ℕ, ◌+◌, ◌≤◌, List, ◌++◌, length, take, drop, Option, None, Some, IfSome, sym, ap, ◌∙◌, subst, take_all, take_at, drop_at, length-take-le, append-nil, add-zero, length-take, arith}
use Rattle.std.proofs.KnownBytes.{Consumes-trans, Consumes-kept}
use Rattle.std.specs.Io.KnownBytes.{Consumes, Keeps, IsAtEnd}
use borrow.Rule.Slice.PartMut.{put_mid, post_of, take_put}
use lib.Seq.{take-add, take-append-le}

-- ---- all reads

read_to_end : (a b : Option (List ℕ)) (bs : List ℕ) (most : ℕ) → Consumes a b bs → IsAtEnd b → length bs ≤ most → IfSome a (λ xs. bs ≡ take most xs)
read_to_end None b bs most p q h = tt
read_to_end (Some xs) None bs most p q h = absurd p
read_to_end (Some xs) (Some ys) bs most p q h =
    let all : xs ≡ bs = p ∙ ap (λ l. bs ++ l) q ∙ append-nil bs in
    sym (take_all most bs h) ∙ ap (take most) (sym all)

pub read_to_full : (a b : Option (List ℕ)) (bs : List ℕ) (most : ℕ) → Consumes a b bs → length bs ≡ most → IfSome a (λ xs. bs ≡ take most xs)
read_to_full None b bs most p e = tt
read_to_full (Some xs) None bs most p e = absurd p
read_to_full (Some xs) (Some ys) bs most p e = sym (ap (take most) p ∙ take_at bs ys most e)

-- ---- one read more

taken_more : (at k n : ℕ) (xs ys : List ℕ) → at ≤ length xs → n ≤ length ys → take (at + n) (put_mid at k xs ys) ≡ take at xs ++ take n ys
taken_more at k n xs ys h few =
    let behind = ys ++ post_of at k xs in
    take-add at n (take at xs ++ behind)
    ∙ ap (λ l. l ++ take n (drop at (take at xs ++ behind))) (take_put at k xs ys h)
    ∙ ap (λ l. take at xs ++ take n l) (drop_at (take at xs) behind at (length-take-le at xs h))
    ∙ ap (λ l. take at xs ++ l) (take-append-le n ys (post_of at k xs) few)

module _ (a b c : Option (List ℕ)) (at k : ℕ) (xs ys : List ℕ) (within : at ≤ length xs) (before : Consumes a b (take at xs)) where
  pub read_more : (n : ℕ) → n ≤ length ys → Consumes b c (take n ys) → Consumes a c (take (at + n) (put_mid at k xs ys))
  read_more n few read = subst (Consumes a c) (sym (taken_more at k n xs ys within few)) (Consumes-trans a b c (take at xs) (take n ys) before read)

  pub read_none : Keeps b c → Consumes a c (take at (put_mid at k xs ys))
  read_none kept = subst (Consumes a c) (sym (take_put at k xs ys within)) (Consumes-kept a b c (take at xs) before kept)

  pub read_ended : (most n : ℕ) → at ≤ most → n ≡ 0 → Consumes b c (take n ys) → IsAtEnd c
      → IfSome a (λ all. take at (put_mid at k xs ys) ≡ take most all)
  read_ended most n few no_more none end =
      let read = put_mid at k xs ys in
      let all : Consumes a c (take at read) = rw (no_more, add-zero at) at (read_more n (omega arith) none) in
      read_to_end a c (take at read) most all end (omega (arith, length-take at read, few))
