-- Right sides of at most two symbols (specs/Results.antt), as two nested loops over forms meet them: a form at place 0 and one at place 1,
-- joined. Joining to the empty word's form gives the first symbol's form back, a tag's step is joining the tag's own form, and where
-- there is no symbol the empty word's form joins to nothing new (words/proofs/JoinLaws.antt). Assumes nothing.
use mathlib.Core.Path.{◌≡◌, refl, sym, ◌∙◌}
use mathlib.Core.List.{List, [], ◌∷◌}
use mathlib.Core.Logic.{◌↔◌}
use Prim.Native.Nat.{ℕ, zero, suc, ◌≤◌}
use native.Mathlib.Omega.{arith}
use lib.ListN.{length}
use Rattle.words.specs.Tags.{Tag, start, end}
use Rattle.words.specs.Binoid.{Binoid, Laws}
use Rattle.words.specs.Reduced.{Stack, bottom, push, EndsFirst}
use Rattle.words.specs.Reader.{Outcome, reduced, nothing_read, then_tag, join}
use Rattle.words.proofs.ReducedLaws.{GoodStack}
use Rattle.words.proofs.StepLaws.{GoodOutcome}
use Rattle.words.proofs.JoinLaws.{join_unit, join_tag, join_self}
use Rattle.template.specs.Grammar.{Symbol, tag, nonterminal}
use Rattle.trees.specs.Trees.{Useful}
use Rattle.trees.specs.Events.{Pair}
use Rattle.trees.specs.Results.{Joins, joins_nothing, joins_tag, joins_image, SymbolForm, FormAt, Result}

module _ {B : Binoid} (L : Laws B) where
  -- end tags first, and good values
  abbrev pub GoodForm : Stack B.H → B.H → Type 0
  GoodForm s c = EndsFirst s × GoodStack L.Good s × L.Good c

  pub tag_good : (t : Tag) → GoodForm (push bottom B.unit t) B.unit
  tag_good (start a) = (tt, (tt, L.good_unit), L.good_unit)
  tag_good (end a) = (tt, (tt, L.good_unit), L.good_unit)

  module _ (I : Pair B.H → Type 0) where
    -- one symbol more, after any outcome

    pub joins_symbol : (a : Symbol) (ss : List Symbol) (o q : Outcome B.H) → GoodOutcome L.Good o
        → Joins B I o (a ∷ ss) q ↔ ((s : Stack B.H) × (c : B.H) × SymbolForm B I a s c × Joins B I (join B o s c) ss q)
    joins_symbol a ss o q g = (there a, back a)
      where
        there : (a : Symbol) → Joins B I o (a ∷ ss) q
            → (s : Stack B.H) × (c : B.H) × SymbolForm B I a s c × Joins B I (join B o s c) ss q
        there (tag t) (joins_tag j) = (push bottom B.unit t, B.unit, (refl, refl), rw (join_tag B L o t g) j)
        there (nonterminal x) (joins_image {s = s} {c = c} i j) = (s, c, i, j)

        back : (a : Symbol) → ((s : Stack B.H) × (c : B.H) × SymbolForm B I a s c × Joins B I (join B o s c) ss q)
            → Joins B I o (a ∷ ss) q
        back (tag t) (s, c, (e, f), j) =
            let k : Joins B I (then_tag B o t) ss q = rw (e, f, join_tag B L o t g) at j in joins_tag k
        back (nonterminal x) (s, c, i, j) = joins_image i j

    joins_end : (o q : Outcome B.H) → Joins B I o [] q ↔ (o ≡ q)
    joins_end o q = (there o q, λ e. rw e joins_nothing)
      where
        there : (o q : Outcome B.H) → Joins B I o [] q → o ≡ q
        there o q joins_nothing = refl

    -- at most one symbol more
    pub joins_place : (ss : List Symbol) → length ss ≤ 1 → (o q : Outcome B.H) → GoodOutcome L.Good o
        → Joins B I o ss q ↔ ((s : Stack B.H) × (c : B.H) × FormAt B I ss 0 s c × (join B o s c ≡ q))
    joins_place [] h o q g = (
      λ j. (bottom, B.unit, (refl, refl), join_unit B L o g ∙ (joins_end o q).0 j),
      λ (s, c, (e, f), j). (joins_end o q).1 (sym (join_unit B L o g) ∙ (rw (e, f) at j)),
    )
    joins_place (a ∷ []) h o q g = (
      λ j. let (s, c, f, k) = (joins_symbol a [] o q g).0 j in (s, c, f, (joins_end (join B o s c) q).0 k),
      λ (s, c, f, e). (joins_symbol a [] o q g).1 (s, c, f, (joins_end (join B o s c) q).1 e),
    )
    joins_place (a ∷ (b ∷ ss)) h o q g = absurd (omega (arith, h))

    module _ (good : (p : Pair B.H) → I p → GoodForm p.form p.last) where
      pub symbol_good : (a : Symbol) (s : Stack B.H) (c : B.H) → SymbolForm B I a s c → GoodForm s c
      symbol_good (tag t) s c (e, f) = rw (e, f) (tag_good t)
      symbol_good (nonterminal x) s c i = good (record { of = x; form = s; last = c }) i

      pub form_good : (ss : List Symbol) (k : ℕ) (s : Stack B.H) (c : B.H) → FormAt B I ss k s c → GoodForm s c
      form_good [] k s c (e, f) = rw (e, f) (tt, tt, L.good_unit)
      form_good (a ∷ ss) zero s c f = symbol_good a s c f
      form_good (a ∷ ss) (suc k) s c f = form_good ss k s c f

      pub joins_pair : (ss : List Symbol) → length ss ≤ 2 → (o : Outcome B.H)
          → Joins B I (nothing_read B) ss o
          ↔ ((s : Stack B.H) × (c : B.H) × (t : Stack B.H) × (d : B.H)
          × FormAt B I ss 0 s c × FormAt B I ss 1 t d × (join B (reduced s c) t d ≡ o))
      joins_pair [] h o = (
        λ j. let (t, d, f, e) = (joins_place [] (omega arith) (nothing_read B) o (tt, L.good_unit)).0 j in
            (bottom, B.unit, t, d, (refl, refl), f, e),
        λ (s, c, t, d, (e, f), g, j).
            (joins_place [] (omega arith) (nothing_read B) o (tt, L.good_unit)).1 (t, d, g, rw (e, f) at j),
      )
      joins_pair (a ∷ ss) h o = (there, back)
        where
          short : length ss ≤ 1
          short = omega (arith, h)

          self : (s : Stack B.H) (c : B.H) → SymbolForm B I a s c → join B (nothing_read B) s c ≡ reduced s c
          self s c f = let (k, gs, gc) = symbol_good a s c f in join_self B L s c k gs gc

          values : (s : Stack B.H) (c : B.H) → SymbolForm B I a s c → GoodOutcome L.Good (reduced s c)
          values s c f = let (k, gs, gc) = symbol_good a s c f in (gs, gc)

          there : Joins B I (nothing_read B) (a ∷ ss) o → (s : Stack B.H) × (c : B.H) × (t : Stack B.H) × (d : B.H)
              × SymbolForm B I a s c × FormAt B I ss 0 t d × (join B (reduced s c) t d ≡ o)
          there j =
              let (s, c, f, k) = (joins_symbol a ss (nothing_read B) o (tt, L.good_unit)).0 j in
              let (t, d, g, e) = (joins_place ss short (reduced s c) o (values s c f)).0 (rw (self s c f) at k) in
              (s, c, t, d, f, g, e)

          back : ((s : Stack B.H) × (c : B.H) × (t : Stack B.H) × (d : B.H)
              × SymbolForm B I a s c × FormAt B I ss 0 t d × (join B (reduced s c) t d ≡ o)) → Joins B I (nothing_read B) (a ∷ ss) o
          back (s, c, t, d, f, g, e) =
              (joins_symbol a ss (nothing_read B) o (tt, L.good_unit)).1
              (s, c, f, rw (self s c f) ((joins_place ss short (reduced s c) o (values s c f)).1 (t, d, g, e)))

      -- a rule of a useful nonterminal, and forms of its two places that join to the outcome
      pub result_pair : (Rule : ℕ → List Symbol → Type 0) → ((x : ℕ) (ss : List Symbol) → Rule x ss → length ss ≤ 2)
          → (x : ℕ) (o : Outcome B.H) → Result B I Rule x o
          ↔ (Useful Rule x × (ss : List Symbol) × Rule x ss × (s : Stack B.H) × (c : B.H) × (t : Stack B.H) × (d : B.H)
          × FormAt B I ss 0 s c × FormAt B I ss 1 t d × (join B (reduced s c) t d ≡ o))
      result_pair Rule short x o = (
        λ n.
            let (s, c, t, d, f, g, e) = (joins_pair n.right (short x n.right n.rule) o).0 n.joins in
            (n.useful, n.right, n.rule, s, c, t, d, f, g, e),
        λ (u, ss, rule, s, c, t, d, f, g, e). record {
          useful = u;
          right = ss;
          rule = rule;
          joins = (joins_pair ss (short x ss rule) o).1 (s, c, t, d, f, g, e);
        },
      )
