-- A part of a file as the code cuts it out: the bytes from a place up to an end, where both lie within the file, else nothing. Assumes nothing.
use Rattle.std.proofs.Common.{◌≡◌, List, [], ℕ, ◌+◌, ◌-◌, ◌≤◌, ◌<◌, ◌⊎◌, inl, inr, length, Option, Some, None, Bor, MatchOption, slice_range, arith}
use Rattle.std.specs.Option.{unwrap_or}
use borrow.Author.Tests.{lt-leb, le-leb}
use Rattle.template.specs.Layout.{part_of}

-- what `get` finds, or else nothing
pub part_got : (f : List ℕ) (at len : ℕ) (none : Bor (List ℕ)) → none.now ≡ [] → (o : Option (Bor (List ℕ)))
    → MatchOption o ((at + len < at) ⊎ (length f < at + len))
    (λ x. (at ≤ at + len) × (at + len ≤ length f) × (x.now ≡ slice_range f at (at + len)) × (length x.now + at ≡ at + len))
    → (unwrap_or o none).now ≡ part_of f at len
unfolding part_of
part_got f at len none e (Some x) (low, high, is, long) = rw (le-leb (at + len) (length f) high, is) (let size : at + len - at ≡ len = omega arith in rw size)
part_got f at len none e None (inl h) = absurd (omega arith)
part_got f at len none e None (inr h) = rw (lt-leb (at + len) (length f) h) e
