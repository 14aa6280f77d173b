-- The images of a round are what the rules make of the images before it (specs/Events.antt, specs/Results.antt). Along a right side,
-- reading a subtree's string on from an outcome is joining its image to that outcome. So the images of the symbols join to what
-- reading the whole string gives, where each subtree has its image: that is, where the round before had no mismatch and nothing too
-- deep. From the one law `next_result` follow the images of the next round, its mismatches, what is too deep in it, and its invalid
-- pages. Assumes nothing.
use mathlib.Core.Path.{◌≡◌, ◌∙◌, subst}
use mathlib.Core.List.{List, [], ◌∷◌, ◌++◌}
use mathlib.Core.Logic.{◌↔◌}
use Prim.Native.Nat.{ℕ, suc, ◌≤◌, ◌<◌}
use Rattle.words.specs.Tags.{Tag}
use Rattle.words.specs.Balance.{Balanced}
use Rattle.words.specs.Binoid.{Binoid, Laws}
use Rattle.words.specs.Reduced.{Stack, tags, Reduced}
use Rattle.words.specs.Reader.{Outcome, reduced, differ, nothing_read, then_tag, run, read, join}
use Rattle.words.proofs.ReducedLaws.{reduced_good}
use Rattle.words.proofs.StepLaws.{GoodOutcome, good_tag}
use Rattle.words.proofs.ReadLaws.{Told, run_nil, run_cons, run_append, told_read, read_reduced}
use Rattle.words.proofs.MismatchLaws.{balanced_not_mismatched, read_is_reduced, read_is_differ}
use Rattle.words.proofs.JoinLaws.{good_join, run_join}
use Rattle.template.specs.Grammar.{Symbol}
use Rattle.trees.specs.Trees.{Useful}
use Rattle.trees.specs.Events.{Pair, Under, Image, Mismatch, InvalidPage, TooDeep}
use Rattle.trees.specs.Results.{Joins, joins_nothing, joins_tag, joins_image, Result}
use Rattle.trees.proofs.HeightLaws.{YieldsWithin, within_nothing, within_tag, within_tree, within_append, within_node}
use Rattle.trees.proofs.MarkLaws.{AllNonterminals}
use Rattle.trees.proofs.EventLaws.{under_within, within_under, under_root, under_image}

-- an outcome that no valid string has, where a valid form is one of a valid string
abbrev pub InvalidOutcome : {H : Type 0} → (Stack H → H → Type 0) → Outcome H → Type 0
InvalidOutcome ValidForm (reduced s c) = ValidForm s c → ⊥
InvalidOutcome ValidForm (differ a b) = Unit {0}

-- results depend on the images alone

module _ {B : Binoid} {I J : Pair B.H → Type 0} where
  pub joins_included : ((p : Pair B.H) → I p → J p) → {o q : Outcome B.H} {ss : List Symbol} → Joins B I o ss q → Joins B J o ss q
  joins_included f joins_nothing = joins_nothing
  joins_included f (joins_tag j) = joins_tag (joins_included f j)
  joins_included f (joins_image i j) = joins_image (f _ i) (joins_included f j)

  module _ {Rule : ℕ → List Symbol → Type 0} where
    pub result_included : ((p : Pair B.H) → I p → J p) → {x : ℕ} {o : Outcome B.H} → Result B I Rule x o → Result B J Rule x o
    result_included f n = record { useful = n.useful; right = n.right; rule = n.rule; joins = joins_included f n.joins }

module _ {B : Binoid} {I J : Pair B.H → Type 0} {Rule : ℕ → List Symbol → Type 0} where
  pub result_same : ((p : Pair B.H) → I p ↔ J p) → {x : ℕ} {o : Outcome B.H} → Result B I Rule x o ↔ Result B J Rule x o
  result_same f = (result_included (λ p. (f p).0), result_included (λ p. (f p).1))

module _ {Rule : ℕ → List Symbol → Type 0} {B : Binoid} {Valid : List Tag → Type 0} {most cap : ℕ} (L : Laws B) where
  -- what images join to is read from some string

  joins_string : {r : ℕ} {ss : List Symbol} {o q : Outcome B.H} → GoodOutcome L.Good o
      → Joins B (Image Rule B Valid most cap r) o ss q → (w : List Tag) × YieldsWithin Rule r ss w × (run B o w ≡ q)
  joins_string {o = o} g joins_nothing = ([], within_nothing, run_nil B o)
  joins_string {o = o} g (joins_tag {t = t} j) =
      let (w, p, e) = joins_string (good_tag B L o t g) j in
      (t ∷ w, within_tag p, run_cons B o t w ∙ e)
  joins_string {o = o} g (joins_image {s = s} {c = c} i j) =
      let (gs, gc) = reduced_good B L i.reduced in
      let (w, p, e) = joins_string (good_join B L o s c g gs gc) j in
      (i.string ++ w, within_append (under_within i.under) p, rw (run_append, run_join B L i.reduced o g) e)

  pub result_string : {r x : ℕ} {o : Outcome B.H} → Result B (Image Rule B Valid most cap r) Rule x o
      → (w : List Tag) × Under Rule B Valid most cap (suc r) x w × (read B w ≡ o)
  unfolding read
  result_string n =
      let (w, p, e) = joins_string (tt, L.good_unit) n.joins in
      (w, within_under n.useful (within_node n.rule p), e)

  -- a string is read as the images of its subtrees join, where they have images

  string_joins : {r : ℕ} → (Mismatch Rule B Valid most cap r → ⊥) → (TooDeep Rule B Valid most cap r → ⊥)
      → {ss : List Symbol} {w : List Tag} → YieldsWithin Rule r ss w → AllNonterminals (Useful Rule) ss
      → (o : Outcome B.H) → GoodOutcome L.Good o → Joins B (Image Rule B Valid most cap r) o ss (run B o w)
  string_joins matched shallow within_nothing us o g = rw run_nil joins_nothing
  string_joins matched shallow (within_tag {t = t} p) us o g =
      rw run_cons (joins_tag (string_joins matched shallow p us (then_tag B o t) (good_tag B L o t g)))
  string_joins matched shallow (within_tree rule p q) (u, us) o g =
      let (s, c, d, i) = under_image L matched shallow (within_under u (within_node rule p)) in
      let (gs, gc) = reduced_good B L d in
      rw (run_append, run_join B L d o g)
      (joins_image i (string_joins matched shallow q us (join B o s c) (good_join B L o s c g gs gc)))

  module _ {r : ℕ} (matched : Mismatch Rule B Valid most cap r → ⊥) (shallow : TooDeep Rule B Valid most cap r → ⊥) where
    pub string_result : {x : ℕ} {w : List Tag} → Under Rule B Valid most cap (suc r) x w
        → Result B (Image Rule B Valid most cap r) Rule x (read B w)
    unfolding read
    string_result u =
        let (rhs, rule, p, us) = under_root u in
        let joins = string_joins matched shallow p us (nothing_read B) (tt, L.good_unit) in
        record { useful = u.useful; right = rhs; rule = rule; joins = joins }

    -- the rules over the images come to what the strings of the next round are read to
    pub next_result : (x : ℕ) (o : Outcome B.H) → Result B (Image Rule B Valid most cap r) Rule x o
        ↔ ((w : List Tag) × Under Rule B Valid most cap (suc r) x w × (read B w ≡ o))
    next_result x o = (
      result_string,
      λ (w, u, e). subst (λ q. Result B (Image Rule B Valid most cap r) Rule x q) e (string_result u),
    )

    pub next_image : {p : Pair B.H} → Image Rule B Valid most cap (suc r) p
        ↔ (Result B (Image Rule B Valid most cap r) Rule p.of (reduced p.form p.last) × (tags p.form ≤ most))
    next_image {p} = (
      λ i. ((next_result p.of _).1 (i.string, i.under, read_reduced B L i.reduced), i.few),
      λ (n, h).
          let (w, u, e) = result_string n in
          record { string = w; under = u; reduced = (read_is_reduced B L w p.form p.last).0 e; few = h },
    )

    pub next_mismatch : Mismatch Rule B Valid most cap (suc r)
        ↔ ((x a b : ℕ) × Result B (Image Rule B Valid most cap r) Rule x (differ a b))
    next_mismatch = (
      λ m.
          let (a, b, e) = (read_is_differ B L m.string).1 m.mismatched in
          (m.of, a, b, (next_result m.of (differ a b)).1 (m.string, m.under, e)),
      λ (x, a, b, n).
          let (w, u, e) = result_string n in
          record { of = x; string = w; under = u; mismatched = (read_is_differ B L w).0 (a, b, e) },
    )

    pub next_deep : TooDeep Rule B Valid most cap (suc r)
        ↔ ((x : ℕ) × (s : Stack B.H) × (c : B.H) × Result B (Image Rule B Valid most cap r) Rule x (reduced s c) × (most < tags s))
    next_deep = (
      λ d. (d.of, d.form, d.last, (next_result d.of _).1 (d.string, d.under, read_reduced B L d.reduced), d.deep),
      λ (x, s, c, n, h).
          let (w, u, e) = result_string n in
          record { of = x; string = w; under = u; form = s; last = c; reduced = (read_is_reduced B L w s c).0 e; deep = h },
    )

    -- an outcome of the start that no valid string has
    module _ (ValidForm : Stack B.H → B.H → Type 0)
        (valid_form : (w : List Tag) (s : Stack B.H) (c : B.H) → Reduced B w s c → Valid w ↔ ValidForm s c)
        (valid_balanced : (w : List Tag) → Valid w → Balanced w) where
      told_invalid : (w : List Tag) (o : Outcome B.H) → Told B w o → (Valid w → ⊥) ↔ InvalidOutcome ValidForm o
      told_invalid w (reduced s c) d = (λ n v. n ((valid_form w s c d).1 v), λ n v. n ((valid_form w s c d).0 v))
      told_invalid w (differ a b) m = (λ n. tt, λ n v. balanced_not_mismatched B L (valid_balanced w v) m)

      pub next_invalid : InvalidPage Rule B Valid most cap (suc r)
          ↔ ((o : Outcome B.H) × Result B (Image Rule B Valid most cap r) Rule 0 o × InvalidOutcome ValidForm o)
      next_invalid = (
        λ v.
            let w = v.string in
            (read B w, string_result v.under, (told_invalid w (read B w) (told_read B L w)).0 v.invalid),
        λ (o, n, h).
            let (w, u, e) = result_string n in
            record { string = w; under = u; invalid = (told_invalid w o (subst (λ q. Told B w q) e (told_read B L w))).1 h },
      )
