-- Reduced forms in arrays (specs/Held.antt): the places below n decide the n first tags, so a write at n or behind leaves them; one
-- tag put behind the others or taken from them; the counts of ends and starts, and that ends stand before starts. Each goes along the
-- tags, with a test of each place against the number of ends. Numbers that the code computes are variables, with equations between
-- them. Assumes nothing.
use mathlib.Core.Path.{◌≡◌, refl, sym, ap, ◌∙◌}
use mathlib.Core.List.{List}
use Prim.Native.Nat.{ℕ, zero, suc, ◌+◌, ◌-◌, ◌≤◌, ◌<◌}
use native.Mathlib.Decide.{ℕ_discrete, dec_lt}
use native.Mathlib.Omega.{arith}
use lib.IntN.{pos, ◌-ℤ◌}
use lib.ListN.{get_or, set, length, replicate}
use lib.Seq.{get_or-set_same, get_or-set_other}
use borrow.Author.Tests.{lt-ltb, le-ltb}
use Rattle.words.specs.Tags.{start, end}
use Rattle.words.specs.Reduced.{bottom, push, OnlyEnds, EndsFirst, tags, starts, ends, net}
use Rattle.pieces.specs.declared.Piece.{Piece}
use Rattle.pieces.specs.Pieces.{most_tags, pieces_long, zero_piece, piece_at, put_piece}
use Rattle.pieces.proofs.PieceLaws.{piece_same, piece_other, put_length, no_pieces, pieces_ext}
use Rattle.form.specs.Held.{tag_at, stack_of, Unused}

-- a tag by its place

pub tag_end : (e : ℕ) (names : List ℕ) (k : ℕ) → k < e → tag_at e names k ≡ end (get_or names k 0)
unfolding tag_at
tag_end e names k l = rw (lt-ltb k e l)

pub tag_start : (e : ℕ) (names : List ℕ) (k : ℕ) → e ≤ k → tag_at e names k ≡ start (get_or names k 0)
unfolding tag_at
tag_start e names k l = rw (le-ltb k e l)

-- only the places below n matter
pub stack_same : (n e e' : ℕ) (names names' values values' : List ℕ) → ((k : ℕ) → k < n → tag_at e names k ≡ tag_at e' names' k)
    → ((k : ℕ) → k < n → piece_at values k ≡ piece_at values' k) → stack_of e names values n ≡ stack_of e' names' values' n
unfolding stack_of
stack_same zero e e' names names' values values' f g = refl
stack_same (suc n) e e' names names' values values' f g =
    rw (
      stack_same n e e' names names' values values' (λ k l. f k (omega arith)) (λ k l. g k (omega arith)),
      f n (omega arith),
      g n (omega arith),
    )

-- no tag, and the last tag

pub stack_none : (e : ℕ) (names values : List ℕ) → stack_of e names values 0 ≡ bottom
unfolding stack_of
stack_none e names values = refl

pub stack_last : (e n m : ℕ) (names values : List ℕ) → n ≡ suc m
    → stack_of e names values n ≡ push (stack_of e names values m) (piece_at values m) (tag_at e names m)
unfolding stack_of
stack_last e n m names values p = rw p

-- writes

tag_write : (e n k a : ℕ) (names : List ℕ) → k < n → tag_at e (set names n a) k ≡ tag_at e names k
unfolding tag_at
tag_write e n k a names l = rw (get_or-set_other names n k a 0 (omega arith))

pub stack_value : (e n : ℕ) (v : Piece) (names values : List ℕ) → stack_of e names (put_piece values n v) n ≡ stack_of e names values n
stack_value e n v names values =
    stack_same n e e names names (put_piece values n v) values (λ k l. refl) (λ k l. piece_other values n k v (omega arith))

-- a tag behind the n first, which stay what they were
stack_put : (e e' n m a : ℕ) (v : Piece) (names values : List ℕ) → m ≡ suc n
    → ((k : ℕ) → k < n → tag_at e' (set names n a) k ≡ tag_at e names k) → stack_of e' (set names n a) (put_piece values m v) m
    ≡ push (stack_of e names values n) (piece_at values n) (tag_at e' (set names n a) n)
stack_put e e' n m a v names values p same =
    rw (
      stack_last e' m n (set names n a) (put_piece values m v) p,
      stack_same n e' e (set names n a) names (put_piece values m v) values same (λ k q. piece_other values m k v (omega arith)),
      piece_other values m n v (omega arith),
    )

pub stack_put_start : (e n m a : ℕ) (v : Piece) (names values : List ℕ) → m ≡ suc n → e ≤ n → n < length names
    → stack_of e (set names n a) (put_piece values m v) m ≡ push (stack_of e names values n) (piece_at values n) (start a)
stack_put_start e n m a v names values p l h =
    rw (
      stack_put e e n m a v names values p (λ k q. tag_write e n k a names q),
      tag_start e (set names n a) n l,
      get_or-set_same names n a 0 h,
    )

-- an end tag goes behind n ends
pub stack_put_end : (e n m a : ℕ) (v : Piece) (names values : List ℕ) → m ≡ suc n → n ≤ e → n < length names
    → stack_of m (set names n a) (put_piece values m v) m ≡ push (stack_of e names values n) (piece_at values n) (end a)
stack_put_end e n m a v names values p l h =
    rw (
      stack_put e m n m a v names values p
          (λ k q. tag_write m n k a names q ∙ tag_end m names k (omega arith) ∙ sym (tag_end e names k (omega arith))),
      tag_end m (set names n a) n (omega arith),
      get_or-set_same names n a 0 h,
    )

-- the last of n tags goes, and a piece takes the place of two
pub stack_take : (e n m a : ℕ) (v w : Piece) (names values : List ℕ) → n ≡ suc m
    → stack_of e (set names m a) (put_piece (put_piece values n w) m v) m ≡ stack_of e names values m
stack_take e n m a v w names values p =
    stack_same m e e (set names m a) names (put_piece (put_piece values n w) m v) values (λ k l. tag_write e m k a names l)
    (λ k l. piece_other (put_piece values n w) m k v (omega arith) ∙ piece_other values n k w (omega arith))

-- unused places

empty_place : (n k : ℕ) → ◌≡◌ {A = ℕ} (get_or (replicate n 0) k 0) 0
empty_place zero k = refl
empty_place (suc n) zero = refl
empty_place (suc n) (suc k) = empty_place n k

pub unused_none : (n m : ℕ) (v : Piece) → Unused 0 (replicate n 0) (put_piece (replicate m 0) 0 v)
unused_none n m v =
    record {
      names_zero = λ k l. empty_place n k;
      values_zero = λ k l. piece_other (replicate m 0) 0 k v (omega arith) ∙ no_pieces m k;
    }

pub unused_put : (n m a : ℕ) (v : Piece) (names values : List ℕ) → m ≡ suc n → Unused n names values
    → Unused m (set names n a) (put_piece values m v)
unused_put n m a v names values p u =
    record {
      names_zero = λ k l. get_or-set_other names n k a 0 (omega arith) ∙ u.names_zero k (omega arith);
      values_zero = λ k l. piece_other values m k v (omega arith) ∙ u.values_zero k (omega arith);
    }

pub unused_value : (n : ℕ) (v : Piece) (names values : List ℕ) → Unused n names values → Unused n names (put_piece values n v)
unused_value n v names values u =
    record {
      names_zero = u.names_zero;
      values_zero = λ k l. piece_other values n k v (omega arith) ∙ u.values_zero k l;
    }

pub unused_take : (n m : ℕ) (v : Piece) (names values : List ℕ) → n ≡ suc m → m < length names → length values ≡ pieces_long
    → n ≤ most_tags → Unused n names values → Unused m (set names m 0) (put_piece (put_piece values n zero_piece) m v)
unused_take n m v names values p h g l u =
    record {
      names_zero = λ k l. name k l (ℕ_discrete k m);
      values_zero = λ k l. piece_other (put_piece values n zero_piece) m k v (omega arith) ∙ value k l (ℕ_discrete k n);
    }
  where
    name : (k : ℕ) → m ≤ k → Dec (k ≡ m) → get_or (set names m 0) k 0 ≡ 0
    name k l (yes e) = rw e (get_or-set_same names m 0 0 h)
    name k l (no e) = get_or-set_other names m k 0 0 e ∙ u.names_zero k (omega arith)

    value : (k : ℕ) → m < k → Dec (k ≡ n) → piece_at (put_piece values n zero_piece) k ≡ zero_piece
    value k b (yes e) = rw e (piece_same values n zero_piece g l)
    value k b (no e) = piece_other values n k zero_piece e ∙ u.values_zero k (omega arith)

-- the piece after m tags, once it is written
pub value_taken : (n m : ℕ) (v w : Piece) (values : List ℕ) → length values ≡ pieces_long → m ≤ most_tags
    → piece_at (put_piece (put_piece values n w) m v) m ≡ v
value_taken n m v w values h l = piece_same (put_piece values n w) m v (put_length values n w ∙ h) l

-- a piece written over another
pub value_over : (n : ℕ) (v w : Piece) (values : List ℕ) → length values ≡ pieces_long → n ≤ most_tags
    → put_piece (put_piece values n v) n w ≡ put_piece values n w
value_over n v w values h l =
    pieces_ext (put_piece (put_piece values n v) n w) (put_piece values n w) (put_length (put_piece values n v) n w ∙ long)
    (put_length values n w ∙ h) (λ k m. at k (ℕ_discrete k n))
  where
    long : length (put_piece values n v) ≡ pieces_long
    long = put_length values n v ∙ h

    at : (k : ℕ) → Dec (k ≡ n) → piece_at (put_piece (put_piece values n v) n w) k ≡ piece_at (put_piece values n w) k
    at k (yes e) = rw e (piece_same (put_piece values n v) n w long l ∙ sym (piece_same values n w h l))
    at k (no e) =
        piece_other (put_piece values n v) n k w e ∙ piece_other values n k v e ∙ sym (piece_other values n k w e)

-- counts

pub tags_held : (e n : ℕ) (names values : List ℕ) → tags (stack_of e names values n) ≡ n
unfolding tags stack_of
tags_held e zero names values = refl
tags_held e (suc n) names values = ap suc (tags_held e n names values)

counts_held : (e n : ℕ) (names values : List ℕ)
    → (starts (stack_of e names values n) ≡ n - e) × (ends (stack_of e names values n) + (n - e) ≡ n)
unfolding starts ends stack_of
counts_held e zero names values = (omega arith, omega arith)
counts_held e (suc n) names values = at (dec_lt n e) (counts_held e n names values)
  where
    at : Dec (n < e) → (starts (stack_of e names values n) ≡ n - e) × (ends (stack_of e names values n) + (n - e) ≡ n)
        → (starts (stack_of e names values (suc n)) ≡ suc n - e) × (ends (stack_of e names values (suc n)) + (suc n - e) ≡ suc n)
    at (yes l) (p, q) = rw (tag_end e names n l) (omega arith, omega arith)
    at (no l) (p, q) = rw (tag_start e names n (omega arith)) (omega arith, omega arith)

pub starts_held : (e s : ℕ) (names values : List ℕ) → starts (stack_of e names values (e + s)) ≡ s
starts_held e s names values = let p = (counts_held e (e + s) names values).0 in omega arith

pub ends_held : (e s : ℕ) (names values : List ℕ) → ends (stack_of e names values (e + s)) ≡ e
ends_held e s names values = let p = (counts_held e (e + s) names values).1 in omega arith

pub net_held : (e s : ℕ) (names values : List ℕ) → net (stack_of e names values (e + s)) ≡ pos s -ℤ pos e
unfolding net
net_held e s names values = rw (starts_held e s names values, ends_held e s names values)

-- ends first

pub only_ends_held : (e n : ℕ) (names values : List ℕ) → n ≤ e → OnlyEnds (stack_of e names values n)
unfolding stack_of
only_ends_held e zero names values l = tt
only_ends_held e (suc n) names values l = rw (tag_end e names n (omega arith)) (only_ends_held e n names values (omega arith))

pub ends_first_held : (e n : ℕ) (names values : List ℕ) → EndsFirst (stack_of e names values n)
unfolding stack_of
ends_first_held e zero names values = tt
ends_first_held e (suc n) names values = at (dec_lt n e) (ends_first_held e n names values)
  where
    at : Dec (n < e) → EndsFirst (stack_of e names values n) → EndsFirst (stack_of e names values (suc n))
    at (yes l) f = rw (tag_end e names n l) (only_ends_held e n names values (omega arith))
    at (no l) f = rw (tag_start e names n (omega arith)) f
