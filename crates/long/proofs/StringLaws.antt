-- Splitting keeps the strings (specs/Rules.antt). The parts are a grammar beside the long rules. A part is a long rule or gives what its
-- left side stands for (`part_expands`); a long rule is the chain of its parts, from any of its places on (`rest_chain`, by induction on
-- the new nonterminals left). So the general law of such grammars (SplitLaws) applies. An ordinary list has the parts for entries, and its
-- rules are its entries: four bytes each, since a part has four (`gives_entry`, `entry_gives`). Assumes nothing.
use mathlib.Core.Path.{◌≡◌, refl, sym, ◌∙◌, ap}
use mathlib.Core.Logic.{◌↔◌, inl, inr}
use mathlib.Core.List.{List, [], ◌∷◌}
use Prim.Native.Nat.{ℕ, zero, suc, ◌+◌, ◌-◌, ◌*◌, ◌<◌, min}
use native.Mathlib.Omega.{arith}
use lib.ListN.{length, get_or, take, drop, length-take, length-drop}
use lib.Seq.{get_or-take, get_or-drop}
use Rattle.words.specs.Tags.{Tag}
use Rattle.numbers.specs.Fields.{field}
use Rattle.template.specs.Grammar.{Symbol, nonterminal, symbol_of, right_side, Gives}
use Rattle.trees.specs.Trees.{Tree}
use Rattle.save.specs.Entries.{Entry}
use Rattle.long.specs.Rules.{long_field, long_count, LongGives, extra, rest_of, part, parts, IsPart, LongRulesBelow}
use Rattle.long.proofs.SplitLaws.{expand, Expands, Chain, as_is, split, split_strings}
use Rattle.long.proofs.RestLaws.{rest_side, stands_for, rest_whole, stands_old, stands_rest}
use Rattle.long.proofs.PartLaws.{left_of, side_of, part_left, part_length, part_inner, part_last, part_stands, rest_next}

-- ---- the parts as a grammar

abbrev pub PartGives : ℕ → List ℕ → ℕ → List Symbol → Type 0
PartGives N rules x ss =
    (i t : ℕ) × (i < long_count rules) × (t < parts rules i) × (rest_of N rules i t ≡ x) × (side_of (part N rules i t) ≡ ss)

module _ (N : ℕ) (rules : List ℕ) (below : LongRulesBelow N rules) where
  part_expands : (New : ℕ → List Symbol → Type 0) (i t : ℕ) → i < long_count rules → t < parts rules i
      → Expands (LongGives rules) New (stands_for N rules) (rest_of N rules i t) (side_of (part N rules i t))
  unfolding rest_of
  part_expands New i zero h k =
      let rule : LongGives rules (long_field rules i 0) (expand (stands_for N rules) (side_of (part N rules i 0))) =
      (i, h, refl, sym (part_stands N rules below i h 0 k ∙ rest_whole rules i)) in
      inl (stands_old rules N (long_field rules i 0) (below.left_below i h), rule)
  part_expands New i (suc t) h k = inr (stands_rest rules N i t h (omega arith) ∙ sym (part_stands N rules below i h (suc t) k))

  module _ (New : ℕ → List Symbol → Type 0) (has : (x : ℕ) (ss : List Symbol) → New x ss ↔ PartGives N rules x ss) where
    new_expands : (x : ℕ) (ss : List Symbol) → New x ss → Expands (LongGives rules) New (stands_for N rules) x ss
    new_expands x ss g =
        let (i, t, h, k, e, f) = (has x ss).0 g in
        rw (e, f) at (part_expands New i t h k)

    rest_chain : (m i t : ℕ) → i < long_count rules → t + m ≡ extra rules i → Chain New (rest_of N rules i t) (rest_side rules i t)
    rest_chain zero i t h e =
        as_is ((has (rest_of N rules i t) (rest_side rules i t)).1 (i, t, h, omega arith, refl, part_last N rules below i h t (omega arith)))
    rest_chain (suc m) i t h e =
        let s = symbol_of (long_field rules i (2 + t)) in
        let y = rest_of N rules i (suc t) in
        let inner = part_inner N rules i t (omega arith) in
        let rule = (has (rest_of N rules i t) (s ∷ nonterminal y ∷ [])).1 (i, t, h, omega arith, refl, inner) in
        rw (rest_next N rules below i h t (omega arith)) (split rule (rest_chain m i (suc t) h (omega arith)))

    old_chain : (x : ℕ) (ss : List Symbol) → LongGives rules x ss → Chain New x ss
    unfolding rest_of
    old_chain x ss (i, h, e, f) =
        let c = rest_chain (extra rules i) i 0 h (omega arith) in
        rw (e, rest_whole rules i, f) at c

    pub part_strings : (x : ℕ) → x < N → (w : List Tag) → ((n : ℕ) × Tree (LongGives rules) x w n) ↔ ((n : ℕ) × Tree New x w n)
    part_strings x h w = split_strings (LongGives rules) New (stands_for N rules) new_expands old_chain x (stands_old rules N x h) w

-- ---- the rules of an ordinary list are its entries

module _ (rules : List ℕ) where
  entry_field : (i j : ℕ) → j < 4 → field rules i j ≡ get_or (take 4 (drop (i * 4) rules)) j 0
  unfolding field
  entry_field i j h = rw (get_or-take 4 (drop (i * 4) rules) j 0 h, get_or-drop (i * 4) rules j 0)

  entry_side : (i : ℕ) → right_side rules i ≡ side_of (take 4 (drop (i * 4) rules))
  unfolding right_side
  entry_side i = rw (entry_field i 1 (omega arith), entry_field i 2 (omega arith), entry_field i 3 (omega arith))

  pub gives_entry : (x : ℕ) (ss : List Symbol) → Gives rules x ss → (e : List ℕ) × Entry 4 rules e × (left_of e ≡ x) × (side_of e ≡ ss)
  gives_entry x ss (i, h, l, r) =
      (take 4 (drop (i * 4) rules), (i, omega arith, refl), sym (entry_field i 0 (omega arith)) ∙ l, sym (entry_side i) ∙ r)

  pub entry_gives : (e : List ℕ) → Entry 4 rules e → length e ≡ 4 → Gives rules (left_of e) (side_of e)
  entry_gives e (i, h, m) l =
      let whole : min 4 (length rules - i * 4) ≡ 4 = rw (m, length-take 4 (drop (i * 4) rules), length-drop (i * 4) rules) at l in
      rw m (i, omega arith, entry_field i 0 (omega arith), entry_side i)

-- ---- the old nonterminals have the strings that they had

module _ (N : ℕ) (rules short : List ℕ) (entries : (e : List ℕ) → Entry 4 short e ↔ IsPart N rules e) where
  short_parts : (x : ℕ) (ss : List Symbol) → Gives short x ss ↔ PartGives N rules x ss
  short_parts x ss = (there, back)
    where
      there : Gives short x ss → PartGives N rules x ss
      there g =
          let (e, entry, l, r) = gives_entry short x ss g in
          let (i, t, h, k, m) = (entries e).0 entry in
          (i, t, h, k, sym (part_left N rules i t) ∙ sym (ap left_of m) ∙ l, sym (ap side_of m) ∙ r)

      back : PartGives N rules x ss → Gives short x ss
      back (i, t, h, k, l, r) =
          let g = entry_gives short (part N rules i t) ((entries (part N rules i t)).1 (i, t, h, k, refl)) (part_length N rules i t) in
          rw (part_left N rules i t, l, r) at g

pub same_strings : (N : ℕ) (rules short : List ℕ) → LongRulesBelow N rules → ((e : List ℕ) → Entry 4 short e ↔ IsPart N rules e)
    → (x : ℕ) → x < N → (w : List Tag) → ((n : ℕ) × Tree (LongGives rules) x w n) ↔ ((n : ℕ) × Tree (Gives short) x w n)
same_strings N rules short below entries = part_strings N rules below (Gives short) (short_parts N rules short entries)
