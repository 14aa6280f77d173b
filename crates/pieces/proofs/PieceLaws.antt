-- Pieces. Two parts. Reading and writing a piece of a flat list are those of its entries: the only place where it is opened how a piece
-- stands there. And a piece is a relation and a number beside it: what holds of the binoid of relations, of a schema or of a lore, and of that
-- of numbers of outermost elements holds of both side by side, once over any three operations; a word is accepted where its relation is and its
-- number is 1. Assumes nothing.
use mathlib.Core.Path.{◌≡◌, refl, sym, ap, ap₂, ◌∙◌}
use mathlib.Core.Logic.{◌↔◌}
use mathlib.Core.Bool.{Bool, true, ◌&&◌}
use mathlib.Core.List.{List}
use Prim.Native.Nat.{ℕ, zero, suc, ◌+◌, ◌*◌, ◌/◌, ◌≤◌, ◌<◌}
use native.Mathlib.Decide.{ℕ_discrete}
use native.Mathlib.Omega.{arith}
use lib.Dec.{eqb}
use lib.ListN.{length, length-set, get_or, set, replicate, get_or-eq_default}
use lib.Seq.{get_or-set_same, get_or-set_other, ext_get_or}
use borrow.Author.Tests.{eqb-true, eq-eqb, leb-true, le-leb}
use Rattle.std.proofs.lemmas.Bool.{and_parts}
use Rattle.words.specs.Tags.{Tag, most_names}
use Rattle.words.specs.Binoid.{Binoid, Laws, Value}
use Rattle.words.specs.Outermost.{OutermostOf, several, outermost}
use Rattle.words.proofs.ValueLaws.{value_balanced}
use Rattle.words.proofs.OutermostLaws.{value_sides, beside_laws, outermost_few, outermost_laws, outermost_one, outermost_of}
use Rattle.hedge.specs.Schema.{most_states, Valid, schema_from, RulesBelow, EndsBelow}
use Rattle.hedge.specs.Relation.{RelationOf}
use Rattle.hedge.specs.Operations.{unit, compose, wrap, relations}
use Rattle.hedge.proofs.NumberLaws.{relations_laws, relation_of_value, derives_accepts}
use Rattle.hedge.proofs.CoverLaws.{covers_within}
use Rattle.lore.specs.Lore.{NamesBelow, Taught, Known}
use Rattle.lore.proofs.LoreLaws.{zero_at}
use Rattle.lore.proofs.TaughtLaws.{taught-wrap, taught-accepts, taught_laws}
use Rattle.pieces.specs.declared.Piece.{Piece}
use Rattle.pieces.specs.Pieces.{most_tags, piece_long, pieces_long, piece, zero_piece, piece_at, put_piece, pieces_from}
use Rattle.pieces.specs.Pieces.{sides, lifted, pieces_of, pieces, Counted, AllCounted, PieceWithin, fits_in, is_none, accepted, accepts_piece}

-- ---- pieces in a list

pub piece_same : (pieces : List ℕ) (k : ℕ) (p : Piece) → length pieces ≡ pieces_long → k ≤ most_tags
    → piece_at (put_piece pieces k p) k ≡ p
unfolding piece_at put_piece
piece_same pieces k p e h =
    let first = set pieces (k * piece_long) p.relation in
    ap₂ piece
    (get_or-set_other first (k * piece_long + 1) (k * piece_long) p.outermost 0 (λ d. omega (arith, d))
    ∙ get_or-set_same pieces (k * piece_long) p.relation 0 (rw e (omega arith)))
    (get_or-set_same first (k * piece_long + 1) p.outermost 0 (rw (length-set, e) (omega arith)))

pub piece_other : (pieces : List ℕ) (n k : ℕ) (p : Piece) → (k ≡ n → ⊥) → piece_at (put_piece pieces n p) k ≡ piece_at pieces k
unfolding piece_at put_piece
piece_other pieces n k p d = ap₂ piece (entry (k * piece_long) (λ e. d (omega (arith, e))) (λ e. omega (arith, e)))
    (entry (k * piece_long + 1) (λ e. omega (arith, e)) (λ e. d (omega (arith, e))))
  where
    entry : (i : ℕ) → (i ≡ n * piece_long → ⊥) → (i ≡ n * piece_long + 1 → ⊥)
        → get_or (set (set pieces (n * piece_long) p.relation) (n * piece_long + 1) p.outermost) i 0 ≡ get_or pieces i 0
    entry i a b =
        get_or-set_other (set pieces (n * piece_long) p.relation) (n * piece_long + 1) i p.outermost 0 b
        ∙ get_or-set_other pieces (n * piece_long) i p.relation 0 a

pub put_length : (pieces : List ℕ) (k : ℕ) (p : Piece) → length (put_piece pieces k p) ≡ length pieces
unfolding put_piece
put_length pieces k p =
    length-set (set pieces (k * piece_long) p.relation) (k * piece_long + 1) p.outermost
    ∙ length-set pieces (k * piece_long) p.relation

pub no_pieces : (n k : ℕ) → piece_at (replicate n 0) k ≡ zero_piece
unfolding piece_at
no_pieces n k = ap₂ piece (zero_at n (k * piece_long)) (zero_at n (k * piece_long + 1))

-- pieces with 0, 1 or 2 stay such, where one more of them is written
pub put_counted : (pieces : List ℕ) (n : ℕ) (p : Piece) → length pieces ≡ pieces_long → n ≤ most_tags
    → AllCounted pieces → Counted p → AllCounted (put_piece pieces n p)
put_counted pieces n p e h all c k = at (ℕ_discrete k n)
  where
    at : Dec (k ≡ n) → Counted (piece_at (put_piece pieces n p) k)
    at (yes d) = rw (d, piece_same pieces n p e h) c
    at (no d) = rw (piece_other pieces n k p d) (all k)

pub none_counted : (n : ℕ) → AllCounted (replicate n 0)
none_counted n k = rw (no_pieces n k) (omega arith)

pub pieces_ext : (a b : List ℕ) → length a ≡ pieces_long → length b ≡ pieces_long
    → ((k : ℕ) → k ≤ most_tags → piece_at a k ≡ piece_at b k)
    → a ≡ b
unfolding piece_at
pieces_ext a b ea eb e = ext_get_or 0 a b (ea ∙ sym eb) (λ i h. by i (rw ea at h) (ℕ_discrete i (i / piece_long * piece_long)))
  where
    by : (i : ℕ) → i < pieces_long → Dec (i ≡ i / piece_long * piece_long) → get_or a i 0 ≡ get_or b i 0
    by i h (yes d) =
        rw d (ap (λ (p : Piece). p.relation) (e (i / piece_long) (omega arith)))
    by i h (no d) =
        let s : i ≡ i / piece_long * piece_long + 1 = omega arith in
        rw s (ap (λ (p : Piece). p.outermost) (e (i / piece_long) (omega arith)))

-- none stands behind the list's end
pub piece_past : (pieces : List ℕ) (k : ℕ) → length pieces ≡ pieces_long → most_tags < k → piece_at pieces k ≡ zero_piece
unfolding piece_at
piece_past pieces k e h =
    ap₂ piece (get_or-eq_default pieces 0 {n = k * piece_long} (omega arith))
    (get_or-eq_default pieces 0 {n = k * piece_long + 1} (omega arith))

-- the list of given pieces

pub pieces_from_length : (at : ℕ → Piece) (k n : ℕ) → length (pieces_from at k n) ≡ n * piece_long
unfolding pieces_from
pieces_from_length at k zero = refl
pieces_from_length at k (suc n) = let e = pieces_from_length at (suc k) n in omega (arith, e)

pub pieces_from_at : (at : ℕ → Piece) (k n i : ℕ) → i < n → piece_at (pieces_from at k n) i ≡ at (k + i)
unfolding piece_at pieces_from
pieces_from_at at k zero i h = absurd (omega arith)
pieces_from_at at k (suc n) zero h = let z : k + 0 ≡ k = omega arith in rw z
pieces_from_at at k (suc n) (suc i) h =
    let z : k + suc i ≡ suc k + i = omega arith in
    let first : suc i * piece_long ≡ suc (suc (i * piece_long)) = omega arith in
    let second : suc i * piece_long + 1 ≡ suc (suc (i * piece_long + 1)) = omega arith in
    rw (z, second, first) (pieces_from_at at (suc k) n i (omega arith))

-- ---- a relation and a number beside it

module _ (empty : ℕ) (follow around : ℕ → ℕ → ℕ) where
  -- the operations on relations
  abbrev pub plain : Binoid
  plain = record { H = ℕ; unit = empty; compose = follow; wrap = around }

  abbrev pub lifted_laws : Laws plain → Laws (lifted empty follow around)
  lifted_laws L = beside_laws plain outermost sides L outermost_laws

  pub value_lifted : {w : List Tag} {p : Piece} → Value (lifted empty follow around) w p
      → Value plain w p.relation × Value outermost w p.outermost
  value_lifted v = value_sides plain outermost sides v

abbrev pub pieces_laws : (lore : List ℕ) → Known most_states lore → Laws (pieces lore)
pieces_laws lore l = lifted_laws _ _ _ (taught_laws lore l)

-- two words in a row have 0, 1 or 2
pub counted_compose : (lore : List ℕ) (p q : Piece) → Counted ((pieces lore).compose p q)
counted_compose lore p q = outermost_few (p.outermost + q.outermost)

-- ---- the lore's binoid of pieces is the schema's

module _ (q : ℕ) (rules ends lore : List ℕ) (t : Taught most_states q rules ends lore) (rules_below : RulesBelow most_states rules)
    (names_below : NamesBelow most_names rules) (ends_below : EndsBelow most_states ends) where
  pub pieces_are : pieces lore ≡ pieces_of q rules ends
  pieces_are i =
      lifted (t.empty i) (compose most_states (t.states i))
      (λ a r. taught-wrap most_states q rules ends lore t rules_below names_below ends_below a r i)

  pub accepts_are : (p : Piece) → accepts_piece lore p ≡ accepted ends p
  unfolding accepts_piece accepted
  accepts_are p =
      ap (λ (t : Bool). t && eqb p.outermost 1)
      (taught-accepts most_states q rules ends lore t rules_below names_below ends_below p.relation)

-- ---- the pieces of a schema

module _ (q : ℕ) (fits : q ≤ most_states) (rules ends : List ℕ) (rules_below : RulesBelow q rules) (ends_below : EndsBelow q ends) where
  abbrev pub pieces_of_laws : Laws (pieces_of q rules ends)
  pieces_of_laws = lifted_laws _ _ _ (relations_laws most_states q fits rules ends rules_below ends_below)

  pub piece_relation : {w : List Tag} {p : Piece} → Value (pieces_of q rules ends) w p
      → RelationOf most_states (schema_from q rules ends) w p.relation
  piece_relation v = relation_of_value most_states q fits rules ends rules_below ends_below (value_lifted _ _ _ v).0

  pub piece_outermost : {w : List Tag} {p : Piece} → Value (pieces_of q rules ends) w p → OutermostOf w p.outermost
  piece_outermost v = outermost_of (value_lifted (unit most_states q) (compose most_states q) (wrap most_states rules ends) v).1

  -- accepted is valid: the relation tells what state 0 derives, the number that it is one element
  pub piece_accepts : {w : List Tag} {p : Piece} → Value (pieces_of q rules ends) w p
      → (accepted ends p ≡ true) ↔ Valid (schema_from q rules ends) w
  unfolding accepted
  piece_accepts {p = p} v =
      let (r, n) = value_lifted _ _ _ v in
      let derives = derives_accepts most_states q fits rules ends rules_below ends_below r in (
        λ e.
            let (a, b) = and_parts _ _ e in
            (value_balanced (relations most_states q rules ends) r, derives.0 a, (outermost_one n).0 (eqb-true p.outermost 1 b)),
        λ (b, d, o). rw (derives.1 d) (eq-eqb p.outermost 1 ((outermost_one n).1 o)),
      )

-- ---- a piece within so many states

pub fits_within : (q : ℕ) (p : Piece) → (fits_in q p ≡ true) ↔ PieceWithin q p
unfolding fits_in
fits_within q p =
    let c = covers_within most_states q p.relation in (
      λ e. let (a, b) = and_parts _ _ e in (c.0 a, leb-true p.outermost several b),
      λ (w, l). rw (c.1 w) (le-leb p.outermost several l),
    )

-- an unused place
pub none_is : (p : Piece) → (is_none p ≡ true) ↔ (p ≡ zero_piece)
unfolding is_none
none_is p = (
  λ e. let (a, b) = and_parts _ _ e in ap₂ piece (eqb-true p.relation 0 a) (eqb-true p.outermost 0 b),
  λ e.
      rw (eq-eqb p.relation 0 (ap (λ (q : Piece). q.relation) e))
      (eq-eqb p.outermost 0 (ap (λ (q : Piece). q.outermost) e)),
)
