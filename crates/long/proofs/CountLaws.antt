-- All parts, in the order of the rules (specs/Rules.antt). Those of one rule are the first values of `part` (`parts_listed`). A rule has one
-- part and one more for each of its new nonterminals, so n rules have n parts and one more for each of theirs; and the list has exactly the
-- parts. By induction on the rules. Assumes nothing.
use mathlib.Core.Path.{◌≡◌, refl, ap}
use mathlib.Core.Logic.{◌↔◌, ⊎_elim}
use mathlib.Core.List.{List, ◌∷◌, [], ◌++◌}
use mathlib.Core.List.Memᴰ
use mathlib.Core.List.{Memᴰ}
use Prim.Native.Nat.{ℕ, zero, suc, ◌+◌, ◌<◌}
use native.Mathlib.Decide.{dec_lt}
use native.Mathlib.Omega.{arith}
use lib.ListN.{length, length-append}
use Rattle.long.specs.Rules.{long_count, extras, part, parts, IsPart, parts_of, all_parts}
use Rattle.long.proofs.ListedLaws.{listed, listed_length, listed_in, listed_out}

module _ (N : ℕ) (rules : List ℕ) where
  parts_listed : (i t : ℕ) → parts_of N rules i t ≡ listed (part N rules i) t
  unfolding parts_of listed
  parts_listed i zero = refl
  parts_listed i (suc t) = ap (λ (before : List (List ℕ)). before ++ (part N rules i t ∷ [])) (parts_listed i t)

  -- one rule more
  pub all_parts_next : (n : ℕ) → all_parts N rules (suc n) ≡ all_parts N rules n ++ listed (part N rules n) (parts rules n)
  unfolding all_parts
  all_parts_next n = ap (λ (own : List (List ℕ)). all_parts N rules n ++ own) (parts_listed n (parts rules n))

  pub all_parts_length : (n : ℕ) → length (all_parts N rules n) ≡ n + extras rules n
  unfolding all_parts extras
  all_parts_length zero = refl
  all_parts_length (suc n) =
      let own = listed_length (part N rules n) (parts rules n) in
      rw (all_parts_next n, length-append (all_parts N rules n) (listed (part N rules n) (parts rules n)), all_parts_length n, own) (omega arith)

  pub all_parts_in : (n i t : ℕ) → i < n → t < parts rules i → Memᴰ (part N rules i t) (all_parts N rules n)
  unfolding all_parts
  all_parts_in zero i t h k = absurd (omega arith)
  all_parts_in (suc n) i t h k =
      elim (dec_lt i n) [
        | yes l ↦ rw (all_parts_next n) (Memᴰ.append_left (listed (part N rules n) (parts rules n)) (all_parts_in n i t l k))
        | no l ↦
            let same : n ≡ i = omega arith in
            rw (same, all_parts_next i) (Memᴰ.append_right (all_parts N rules i) (listed_in (part N rules i) (parts rules i) t k))
      ]

  pub all_parts_out : (n : ℕ) (e : List ℕ) → Memᴰ e (all_parts N rules n)
      → (i t : ℕ) × (i < n) × (t < parts rules i) × (e ≡ part N rules i t)
  unfolding all_parts
  all_parts_out zero e m = absurd (Memᴰ.not-nil m)
  all_parts_out (suc n) e m =
      ⊎_elim (λ k. let (i, t, h, l, d) = all_parts_out n e k in (i, t, omega arith, l, d))
      (λ k. let (t, l, d) = listed_out (part N rules n) (parts rules n) e k in (n, t, omega arith, l, d))
      (Memᴰ.append_cases (all_parts N rules n) (rw (all_parts_next n) at m))

  pub all-parts : (e : List ℕ) → Memᴰ e (all_parts N rules (long_count rules)) ↔ IsPart N rules e
  all-parts e = (
    all_parts_out (long_count rules) e,
    λ p. let (i, t, h, k, d) = p in rw d (all_parts_in (long_count rules) i t h k),
  )
