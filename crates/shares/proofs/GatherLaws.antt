-- The functions in the words of the code, for `search sharing`: the tests of a rule's fields and of its two sides; after h turns of the
-- inner loop the marks are the left sides of the useful rules below h with the right side of rule i, and none of these comes before rule i;
-- after i turns of the outer one the table has the marks of the rules below i. Assumes nothing.
use Rattle.std.proofs.lemmas.Bool.{and_parts, or_cases}
use mathlib.Core.Path.{◌≡◌, refl, sym, ◌∙◌}
use mathlib.Core.Bool.{Bool, true, false, false≢true, or-true, not, ◌&&◌}
use mathlib.Core.List.{List, [], ◌∷◌}
use mathlib.Core.Logic.{◌↔◌, ⊎_elim}
use Prim.Native.Nat.{ℕ, suc, ◌+◌, ◌-◌, ◌*◌, ◌/◌, ◌≤◌, ◌<◌}
use native.Mathlib.Omega.{arith}
use lib.Dec.{eqb}
use lib.ListN.{length, get_or, take, drop, set, length-set}
use lib.Pointwise.{pointwise, bytes_decides}
use lib.Seq.{drop-cons, get_or-set_same, get_or-set_other}
use borrow.Author.Rules.{rules}
use borrow.Author.Tests.{eqb-true, eq-eqb, not-true, not-false}
use Rattle.numbers.specs.Fields.{field}
use Rattle.numbers.specs.Bits.{bit}
use Rattle.template.specs.Layout.{most_rules}
use Rattle.template.specs.Grammar.{right_side, Gives}
use Rattle.trees.specs.Trees.{Productive, Useful}
use Rattle.useful.specs.Marks.{with_mark, RulesInRange, AllMarked, MarksAll}
use Rattle.useful.proofs.PassLaws.{mark_bit}
use Rattle.useful.proofs.StepLaws.{right_productive, right_marked}
use Rattle.shares.specs.Shares.{SameRight, UsefulRule, FirstUseful, Sharing, SharesBelow, Shares}
use Rattle.shares.proofs.ShareLaws.{nothing_bit, below_next, same_symbols}

module _ (rules : List ℕ) where
  -- ---- the tests

  three_bytes : (a b c : ℕ) → b ≡ suc a → c ≡ suc b → c < length rules
      → take 3 (drop a rules) ≡ get_or rules a 0 ∷ get_or rules b 0 ∷ get_or rules c 0 ∷ []
  three_bytes a b c d e l =
      rw (e, d, drop-cons rules a 0 (omega arith), drop-cons rules (suc a) 0 (omega arith), drop-cons rules (suc (suc a)) 0 (omega arith))

  -- the three bytes behind a rule's left side
  right_bytes : (h : ℕ) → h < length rules / 4
      → take (h * 4 + 4 - (h * 4 + 1)) (drop (h * 4 + 1) rules) ≡ field rules h 1 ∷ field rules h 2 ∷ field rules h 3 ∷ []
  unfolding field
  right_bytes h l =
      let three : h * 4 + 4 - (h * 4 + 1) ≡ 3 = omega arith in
      rw three (three_bytes (h * 4 + 1) (h * 4 + 2) (h * 4 + 3) (omega arith) (omega arith) (omega arith))

  pub right_told : (h i : ℕ) → h < length rules / 4 → i < length rules / 4 → (t : Bool)
      → t ≡ pointwise eqb (take (h * 4 + 4 - (h * 4 + 1)) (drop (h * 4 + 1) rules)) (take (i * 4 + 4 - (i * 4 + 1)) (drop (i * 4 + 1) rules))
      → (t ≡ true) ↔ SameRight rules h i
  right_told h i l k t e =
      let told = bytes_decides (field rules h 1 ∷ field rules h 2 ∷ field rules h 3 ∷ []) (field rules i 1 ∷ field rules i 2 ∷ field rules i 3 ∷ []) in
      rw (e, right_bytes h l, right_bytes i k)
      (λ s. let d = told.0 s in (cc, cc, cc), λ (n, b, c). told.1 (rw (n, b, c)))

  -- a rule's left side, and the test of its mark
  module _ (in_range : RulesInRange rules) (i : ℕ) (l : i < length rules / 4) (w : ℕ) (left : w ≡ field rules i 0) where
    pub left_small : w < 64
    left_small = rw left (in_range.left_below i l)

    -- both its sides are as a page's tree has them
    pub useful_told : (productive useful : ℕ) (t s : Bool) → MarksAll productive (Productive (Gives rules))
        → MarksAll useful (Useful (Gives rules)) → t ≡ bit useful w → (s ≡ true) ↔ AllMarked (bit productive) (right_side rules i)
        → ((t && s) ≡ true) ↔ UsefulRule rules i
    useful_told productive useful t s derive marks e test =
        let told : (t ≡ true) ↔ Useful (Gives rules) (field rules i 0) =
        rw (e, left) (marks (field rules i 0) (in_range.left_below i l)) in (
          λ both. let (p, q) = and_parts t _ both in
              (told.0 p, right_productive rules in_range i l productive derive (test.0 q)),
          λ (u, d). rw (told.1 u, test.1 (right_marked rules in_range i l productive derive d)),
        )

  -- ---- the marks of the useful rules below h that share the right side of rule i

  module _ (i : ℕ) where
    abbrev pub SharedBelow : ℕ → ℕ → Type 0
    SharedBelow h x = (g : ℕ) × (g < h) × (field rules g 0 ≡ x) × UsefulRule rules g × SameRight rules g i

    pub record Gathered (h marks : ℕ) : Type 0 where
      pub members : (x : ℕ) → x < 64 → (bit marks x ≡ true) ↔ SharedBelow h x
      pub none_before : (g : ℕ) → g < h → g < i → UsefulRule rules g → SameRight rules g i → ⊥
      pub some : 0 < marks → (x : ℕ) × (x < 64) × (bit marks x ≡ true)

    pub gathered_none : Gathered 0 0
    gathered_none =
        record {
          members = λ x l. (λ b. absurd (nothing_bit x b), λ (g, l, e, u, s). absurd (omega arith));
          none_before = λ g l. absurd (omega arith);
          some = λ l. absurd (omega (arith, l));
        }

    -- no marks where rule i is not the first
    sharing_none : (FirstUseful rules i → ⊥) → Sharing rules i 0
    sharing_none q =
        record {
          shared = λ x k. (λ b. absurd (nothing_bit x b), λ (u, first, s). absurd (q first));
          some = λ l. absurd (omega (arith, l));
        }

    -- it is not useful
    pub sharing_useless : (r : Bool) → (r ≡ true) ↔ UsefulRule rules i → not r ≡ true → Sharing rules i 0
    sharing_useless r test off = sharing_none (λ (u, _). false≢true (sym (not-true r off) ∙ test.1 u))

    -- the two tests of a sharer
    module _ (h : ℕ) (s : Bool) (same : (s ≡ true) ↔ SameRight rules h i) where
      pub sharer_differs : not s ≡ true → (false ≡ true) ↔ (UsefulRule rules h × SameRight rules h i)
      sharer_differs off = (λ e. absurd (false≢true e), λ (_, w). absurd (false≢true (sym (not-true s off) ∙ same.1 w)))

      pub sharer_told : (u : Bool) → (u ≡ true) ↔ UsefulRule rules h → not s ≡ false
          → (u ≡ true) ↔ (UsefulRule rules h × SameRight rules h i)
      sharer_told u is-useful on = (λ e. (is-useful.0 e, same.0 (not-false s on)), λ (v, _). is-useful.1 v)

    module _ (h marks : ℕ) (so_far : Gathered h marks) (t : Bool) (test : (t ≡ true) ↔ (UsefulRule rules h × SameRight rules h i)) where
      pub gathered_other : t ≡ false → Gathered (h + 1) marks
      gathered_other off =
          record {
            members = λ x l. (
              λ b. let (g, k, e, v, w) = (so_far.members x l).0 b in (g, omega arith, e, v, w),
              λ (g, k, e, v, w).
                  (so_far.members x l).1
                  (g, ⊎_elim (λ k. k) (λ d. absurd (not_both (rw d at v) (rw d at w))) (below_next g h k), e, v, w),
            );
            none_before = λ g k k' v w.
                ⊎_elim (λ k. so_far.none_before g k k' v w) (λ d. not_both (rw d at v) (rw d at w)) (below_next g h k);
            some = so_far.some;
          }
        where
          not_both : UsefulRule rules h → SameRight rules h i → ⊥
          not_both v w = false≢true (sym off ∙ test.1 (v, w))

      pub gathered_more : (v next : ℕ) → t ≡ true → i ≤ h → v ≡ field rules h 0 → v < 64
          → next ≡ with_mark marks v → Gathered (h + 1) next
      gathered_more v next on late e small w =
          let (is-useful, same) = test.0 on in
          record {
            members = λ x l. (
              λ b. ⊎_elim
                  (λ m. let (g, k, e, u, s) = (so_far.members x l).0 m in (g, omega arith, e, u, s))
                  (λ q.
                  let d = eqb-true x v q in
                  (h, omega arith, sym (d ∙ e), is-useful, same))
                  (or_cases (bit marks x) _ (rw (w, mark_bit marks v x) at b)),
              λ (g, k, e', u, s). rw (w, mark_bit marks v x)
                  (⊎_elim
                  (λ k. rw ((so_far.members x l).1 (g, k, e', u, s)))
                  (λ d.
                  let d' : v ≡ x = e ∙ (rw d at e') in
                  rw (d', eq-eqb x x refl, or-true))
                  (below_next g h k)),
            );
            none_before = λ g k k' v s. so_far.none_before g (omega arith) k' v s;
            some = λ l. (v, small, rw (w, mark_bit marks v v, eq-eqb v v refl, or-true));
          }

      -- a useful rule before rule i has its right side
      pub gathered_stop : t ≡ true → h < i → Sharing rules i 0
      gathered_stop on l = let (is-useful, same) = test.0 on in sharing_none (λ (_, first). first h l is-useful same)

    pub gathered_end : (r : Bool) (h marks : ℕ) → (r ≡ true) ↔ UsefulRule rules i → not r ≡ false → Gathered h marks → length rules / 4 ≤ h
        → h ≤ length rules / 4 → i < length rules / 4 → Sharing rules i marks
    gathered_end r h marks test on all past within l =
        let is-useful = test.0 (not-false r on) in
        record {
          shared = λ x k. (
            λ b.
                let (g, k', e, u, s) = (all.members x k).0 b in
                (rw (← e) u.0, (is-useful, λ g l' v s. all.none_before g (omega arith) l' v s), (g, omega arith, e, s)),
            λ (u, first, (g, k', e, s)).
                (all.members x k).1 (g, omega arith, e, (rw e u, rw (same_symbols rules g i s) is-useful.1), s),
          );
          some = all.some;
        }

  -- ---- the table

  pub shares_none : (shares : List ℕ) → length shares ≡ most_rules → SharesBelow rules 0 shares
  shares_none shares long = record { long = long; each = λ i l. absurd (omega arith) }

  pub shares_next : (i marks : ℕ) (shares : List ℕ) → SharesBelow rules i shares → Sharing rules i marks → i < length rules / 4
      → length rules / 4 ≤ most_rules → SharesBelow rules (i + 1) (set shares i marks)
  shares_next i marks shares so_far sharing l few =
      record {
        long = length-set shares i marks ∙ so_far.long;
        each = λ k h.
            ⊎_elim
            (λ k_lt. rw (get_or-set_other shares i k marks 0 (omega arith)) (so_far.each k k_lt))
            (λ e. rw (e, get_or-set_same shares i marks 0 (omega (arith, so_far.long))) sharing)
            (below_next k i h);
      }

  pub shares_end : (i : ℕ) (shares : List ℕ) → SharesBelow rules i shares → length rules / 4 ≤ i → i ≤ length rules / 4
      → Shares rules shares
  shares_end i shares all past within = let e : i ≡ length rules / 4 = omega arith in rw (← e) all

pub ruleset sharing = (
  left_small,
  useful_told,
  gathered_none,
  sharing_useless,
  sharer_differs,
  sharer_told,
  gathered_other,
  gathered_more,
  gathered_stop,
  gathered_end,
  shares_none,
  shares_next,
  shares_end,
  rules,
)
