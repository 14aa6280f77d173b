-- What the rules make of a set of images: the summaries of a rule's symbols, joined in their order. Rules, section 8: for each rule a
-- round's walk takes the pairs of images on its right side.
use Rattle.std.specs.Prelude.{◌≡◌, List, [], ◌∷◌, ℕ, zero, suc}
use Rattle.words.specs.Tags.{Tag}
use Rattle.words.specs.Binoid.{Binoid}
use Rattle.words.specs.Reduced.{Stack, bottom, push}
use Rattle.words.specs.Reader.{Outcome, nothing_read, then_tag, join}
use Rattle.template.specs.Grammar.{Symbol, tag, nonterminal}
use Rattle.trees.specs.Trees.{Useful}
use Rattle.trees.specs.Events.{Pair}

module _ (B : Binoid) (I : Pair B.H → Type 0) where
  -- from an outcome, each tag is stepped and each nonterminal's image joined, in order
  pub data Joins : Outcome B.H → List Symbol → Outcome B.H → Type 0 where
    joins_nothing : {o : Outcome B.H} → Joins o [] o
    joins_tag : {o p : Outcome B.H} {t : Tag} {ss : List Symbol} → Joins (then_tag B o t) ss p → Joins o (tag t ∷ ss) p
    joins_image : {o p : Outcome B.H} {x : ℕ} {ss : List Symbol} {s : Stack B.H} {c : B.H}
        → I (record { of = x; form = s; last = c }) → Joins (join B o s c) ss p → Joins o (nonterminal x ∷ ss) p

  -- the forms of a symbol: a tag's own, a nonterminal's images
  abbrev pub SymbolForm : Symbol → Stack B.H → B.H → Type 0
  SymbolForm (tag t) s c = (s ≡ push bottom B.unit t) × (c ≡ B.unit)
  SymbolForm (nonterminal x) s c = I (record { of = x; form = s; last = c })

  -- the forms at a place of a right side; that of the empty word where there is no symbol
  abbrev pub FormAt : List Symbol → ℕ → Stack B.H → B.H → Type 0
  FormAt [] k s c = (s ≡ bottom) × (c ≡ B.unit)
  FormAt (a ∷ ss) zero s c = SymbolForm a s c
  FormAt (a ∷ ss) (suc k) s c = FormAt ss k s c

  -- a rule of a useful nonterminal comes to this outcome
  pub record Result (Rule : ℕ → List Symbol → Type 0) (x : ℕ) (o : Outcome B.H) : Type 0 where
    pub useful : Useful Rule x
    pub right : List Symbol
    pub rule : Rule x right
    pub joins : Joins (nothing_read B) right o
