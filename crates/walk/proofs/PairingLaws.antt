-- What the rules make of the rows of a book (specs/Walks.antt), as the walk meets it: the first useful rule with the right side of a useful
-- nonterminal's rule, a choice of its left slot and one of its right, joined. The forms at the two places of a right side are the choices of
-- its slots, and rows of proper pairs have good forms, so that the results are the joins of pairs of forms (trees' PairLaws).
-- A rule with a result is useful, for the nonterminals of its right side stand in rows. Assumes nothing.
use mathlib.Core.Path.{◌≡◌, sym, ◌∙◌}
use mathlib.Core.Bool.{true}
use mathlib.Core.List.{List, [], ◌∷◌}
use Prim.Native.Nat.{ℕ, ◌/◌, ◌≤◌, ◌<◌}
use lib.ListN.{length}
use native.Mathlib.Omega.{arith}
use Rattle.words.specs.Reduced.{Stack}
use Rattle.words.specs.Reader.{Outcome, reduced, join}
use Rattle.words.proofs.JoinLaws.{join_good}
use Rattle.numbers.specs.Bits.{bit}
use Rattle.hedge.specs.Schema.{most_states}
use Rattle.lore.specs.Lore.{Known}
use Rattle.pieces.specs.declared.Piece.{Piece}
use Rattle.pieces.specs.Pieces.{pieces}
use Rattle.pieces.proofs.PieceLaws.{pieces_laws}
use Rattle.template.specs.Grammar.{Symbol, tag, nonterminal, Gives, right_side}
use Rattle.template.proofs.GrammarLaws.{right_length}
use Rattle.form.specs.Held.{tag_count}
use Rattle.form.proofs.HeldLaws.{ends_first_held}
use Rattle.trees.specs.Trees.{Useful}
use Rattle.trees.specs.Events.{Pair}
use Rattle.trees.specs.Results.{SymbolForm, FormAt}
use Rattle.trees.proofs.MarkLaws.{AllNonterminals, all_append, HasTree, productive_each}
use Rattle.trees.proofs.PairLaws.{GoodForm, form_good, result_pair}
use Rattle.useful.specs.Marks.{RulesInRange}
use Rattle.worktable.specs.Packed.{PairRow}
use Rattle.worktable.proofs.RowLaws.{row_pair}
use Rattle.pairs.specs.Books.{Book, book_of, table_row, Tabled}
use Rattle.pairs.specs.Slots.{left_slot, right_slot, Choice, choices, new_from}
use Rattle.shares.specs.Shares.{FirstUseful, SharesRight, Sharing, Shares}
use Rattle.shares.proofs.ShareLaws.{same_symbols, share_first}
use Rattle.walk.specs.Walks.{ResultOver, ProperPair}
use Rattle.walk.specs.declared.Round.{Round}
use Rattle.walk.proofs.SlotLaws.{left_forms, right_forms, choice_unique, choice_old}

-- a rule of the useful nonterminal x, whose right side is rule i's and no earlier useful one's: left choice j and right choice k of it,
-- joined to the outcome o
pub record Pairing (lore rules : List ℕ) (b : Book) (i j k x : ℕ) (o : Outcome Piece) : Type 0 where
  pub is_rule : i < length rules / 4
  pub is_first : FirstUseful rules i
  pub shares : SharesRight rules i x
  pub useful : Useful (Gives rules) x
  pub is_left : j < choices (left_slot rules i) b.rows
  pub is_right : k < choices (right_slot rules i) b.rows
  pub form : Stack Piece
  pub last : Piece
  pub form' : Stack Piece
  pub last' : Piece
  pub left : Choice (pieces lore).unit b (left_slot rules i) j form last
  pub right : Choice (pieces lore).unit b (right_slot rules i) k form' last'
  pub joins : join (pieces lore) (reduced form last) form' last' ≡ o

short : (rules : List ℕ) (x : ℕ) (ss : List Symbol) → Gives rules x ss → length ss ≤ 2
short rules x ss (i, l, e, q) = rw (← q) (right_length rules i)

module _ {lore rules : List ℕ} (is_lore : Known most_states lore) (b : Book)
    (proper : (k : ℕ) → k < b.rows → (p : Pair Piece) × PairRow (table_row b.table k) p × ProperPair lore rules p) where
  -- a pair that stands in the rows is proper, and its form is good

  tabled_proper : (p : Pair Piece) → Tabled b p → ProperPair lore rules p
  tabled_proper p (k, l, r) =
      let (q, r', g) = proper k l in
      let (e, f, h) = row_pair (table_row b.table k) p.of q.of p.form q.form p.last q.last r r' in
      record {
        useful = rw e g.useful;
        good_form = rw f g.good_form;
        good_last = rw h g.good_last;
      }

  tabled_good : (p : Pair Piece) → Tabled b p → GoodForm (pieces_laws lore is_lore) p.form p.last
  tabled_good p w =
      let (k, l, r) = w in
      let g = tabled_proper p w in
      let s = r.summary in
      (rw (← r.form_is) (ends_first_held s.counts.ends (tag_count s.counts) s.names s.values), g.good_form, g.good_last)

  -- a rule of which each place has a form derives some string: a nonterminal's forms stand in rows, so it is useful

  form_derives : (a : Symbol) (s : Stack Piece) (c : Piece) → SymbolForm (pieces lore) (Tabled b) a s c
      → AllNonterminals (HasTree (Gives rules)) (a ∷ [])
  form_derives (tag t) s c f = tt
  form_derives (nonterminal y) s c f = ((tabled_proper (record { of = y; form = s; last = c }) f).useful.0, tt)

  all_derive : (ss : List Symbol) → length ss ≤ 2 → (s s' : Stack Piece) (c c' : Piece) → FormAt (pieces lore) (Tabled b) ss 0 s c
      → FormAt (pieces lore) (Tabled b) ss 1 s' c' → AllNonterminals (HasTree (Gives rules)) ss
  all_derive [] few s s' c c' f f' = tt
  all_derive (a ∷ []) few s s' c c' f f' = form_derives a s c f
  all_derive (a ∷ a' ∷ []) few s s' c c' f f' =
      all_append (HasTree (Gives rules)) (a ∷ []) (a' ∷ []) (form_derives a s c f) (form_derives a' s' c' f')
  all_derive (a ∷ a' ∷ a'' ∷ ss) few s s' c c' f f' = absurd (omega arith)

  -- results are pairings

  pub result_pairing : RulesInRange rules → {shares : List ℕ} → Shares rules shares → (x : ℕ) (o : Outcome Piece)
      → ResultOver lore rules b x o → (i j k : ℕ) × Pairing lore rules b i j k x o
  result_pairing in_range {shares = shares} all x o r =
      let (u, ss, (g, l, e, q), s, c, s', c', f, f', z) =
      (result_pair (pieces_laws lore is_lore) (Tabled b) tabled_good (Gives rules) (short rules) x o).0 r in
      let derives = (productive_each (Gives rules) ss).1 (all_derive ss (short rules x ss (g, l, e, q)) s s' c c' f f') in
      let (i, h, same, is_first) = share_first rules in_range shares all g l (rw e u, rw q derives) in
      let side : right_side rules i ≡ ss = sym (same_symbols rules g i same) ∙ q in
      let (j, a, d) = (left_forms lore b s c rules i).0 (rw side f) in
      let (k, a', d') = (right_forms lore b s' c' rules i).0 (rw side f') in (
        i,
        j,
        k,
        record {
          is_rule = omega arith;
          is_first = is_first;
          shares = (g, l, e, same);
          useful = u;
          is_left = a;
          is_right = a';
          form = s;
          last = c;
          form' = s';
          last' = c';
          left = d;
          right = d';
          joins = z;
        },
      )

  module _ {i j k x : ℕ} {o : Outcome Piece} (p : Pairing lore rules b i j k x o) where
    pub pairing_result : ResultOver lore rules b x o
    pairing_result =
        let (h, is_rule, of, same) = p.shares in
        (result_pair (pieces_laws lore is_lore) (Tabled b) tabled_good (Gives rules) (short rules) x o).1 (
          p.useful,
          right_side rules i,
          (h, is_rule, of, same_symbols rules h i same),
          p.form,
          p.last,
          p.form',
          p.last',
          (left_forms lore b p.form p.last rules i).1 (j, p.is_left, p.left),
          (right_forms lore b p.form' p.last' rules i).1 (k, p.is_right, p.right),
          p.joins,
        )

    -- a pairing's form is that of a proper pair
    pub pairing_proper : (s : Stack Piece) (c : Piece) → o ≡ reduced s c → ProperPair lore rules (record { of = x; form = s; last = c })
    pairing_proper s c e =
        let laws = pieces_laws lore is_lore in
        let f = (left_forms lore b p.form p.last rules i).1 (j, p.is_left, p.left) in
        let f' = (right_forms lore b p.form' p.last' rules i).1 (k, p.is_right, p.right) in
        let (a, g, h) = form_good laws (Tabled b) tabled_good (right_side rules i) 0 p.form p.last f in
        let (a', g', h') = form_good laws (Tabled b) tabled_good (right_side rules i) 1 p.form' p.last' f' in
        let (u, v) = join_good (pieces lore) laws p.form p.form' s p.last p.last' c g h g' h' (p.joins ∙ e) in
        record { useful = p.useful; good_form = u; good_last = v }

-- choices decide the outcome
pub pairing_unique : {lore rules : List ℕ} {b : Book} {i j k x y : ℕ} {o q : Outcome Piece} → Pairing lore rules b i j k x o
    → Pairing lore rules b i j k y q → o ≡ q
pairing_unique {lore = lore} {rules = rules} {b = b} {i = i} {j = j} {k = k} p r =
    let (e, f) =
    choice_unique (pieces lore).unit b.table b.rows (left_slot rules i) j p.form r.form p.last r.last p.left r.left in
    let (g, h) =
    choice_unique (pieces lore).unit b.table b.rows (right_slot rules i) k p.form' r.form' p.last' r.last' p.right
    r.right in
    sym p.joins ∙ rw (e, f, g, h) r.joins

-- its nonterminal is one of those that are marked for the rule
pub pairing_marked : {lore rules : List ℕ} {b : Book} {i j k x marks : ℕ} {o : Outcome Piece} → RulesInRange rules
    → Sharing rules i marks → Pairing lore rules b i j k x o → (x < 64) × (bit marks x ≡ true)
pairing_marked {x = x} in_range sharing p =
    let (h, is_rule, of, same) = p.shares in
    let small : x < 64 = rw (← of) (in_range.left_below h is_rule) in
    (small, (sharing.shared x small).1 (p.useful, p.is_first, p.shares))

-- a pairing of two old choices was one before
pub pairing_old : {lore rules t : List ℕ} (round : Round) {i j k x : ℕ} {o : Outcome Piece}
    → Pairing lore rules (book_of t round.rows) i j k x o → j < new_from (left_slot rules i) round.prev round.first
    → k < new_from (right_slot rules i) round.prev round.first → Pairing lore rules (book_of t round.prev) i j k x o
pairing_old {lore = lore} {rules = rules} {t = t} round {i = i} {j = j} {k = k} p l l' =
    let old = choice_old (pieces lore).unit t round.prev round.rows round.first in
    let (a, g) = old (left_slot rules i) j p.form p.last l p.left in
    let (a', g') = old (right_slot rules i) k p.form' p.last' l' p.right in
    record {
      is_rule = p.is_rule;
      is_first = p.is_first;
      shares = p.shares;
      useful = p.useful;
      is_left = a;
      is_right = a';
      form = p.form;
      last = p.last;
      form' = p.form';
      last' = p.last';
      left = g;
      right = g';
      joins = p.joins;
    }
