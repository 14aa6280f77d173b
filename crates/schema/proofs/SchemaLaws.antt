-- What a sound file's schema is once it is taught: its lore is a lore, and the binoid of that is the file's, whose laws hold. The two tests
-- at a page's end then say whether the word is valid under the file, made with the schema itself or with its lore: a balanced word's form
-- has no tags, a form is the word's only one, and a balanced word's piece is accepted exactly when state 0 derives the word. What each
-- answer means is said once, by cases; it holds of the answer given, and at most one of the three holds of a word. So whether a word that
-- has a form is valid is decided, by its form. Assumes nothing.
use mathlib.Core.Path.{◌≡◌, refl, sym, ap, ◌∙◌, subst}
use mathlib.Core.Bool.{Bool, true, false, cond, false≢true}
use mathlib.Core.List.{List}
use mathlib.Core.Logic.{◌↔◌}
use Prim.Native.Nat.{ℕ}
use native.Mathlib.Nat.{lt_of_lt_of_le}
use native.Mathlib.Omega.{arith}
use Rattle.std.specs.Prelude.{Result, Ok, Err}
use Rattle.words.specs.Tags.{Tag, most_names}
use Rattle.words.specs.Balance.{Balanced}
use Rattle.words.specs.Binoid.{Laws, Value}
use Rattle.words.specs.Reduced.{Stack, bottom, push, Reduced}
use Rattle.words.proofs.ValueLaws.{value_balanced}
use Rattle.words.proofs.ReducedLaws.{reduced_whole}
use Rattle.words.proofs.ReadLaws.{balanced_bottom}
use Rattle.hedge.specs.Schema.{most_states, RulesBelow, EndsBelow, Valid}
use Rattle.hedge.specs.Operations.{unit, compose, wrap}
use Rattle.lore.specs.Lore.{states_in, empty_in, taught_wrap, NamesBelow, IsLore}
use Rattle.lore.proofs.TaughtLaws.{taught-wrap}
use Rattle.pieces.specs.declared.Piece.{Piece}
use Rattle.pieces.specs.Pieces.{pieces, accepted}
use Rattle.pieces.proofs.PieceLaws.{pieces_of_laws, pieces_are, accepts_are, piece_accepts}
use Rattle.template.specs.Layout.{states, schema_rules, ending_states}
use Rattle.template.specs.Order.{IsSound}
use Rattle.template.proofs.SoundLaws.{sound_file}
use Rattle.template.proofs.GrammarLaws.{schema_rules_below, schema_names_below, endings_below}
use Rattle.form.specs.Endings.{ending_of}
use Rattle.form.specs.declared.Flaw.{Flaw}
use Rattle.form.specs.declared.Flaw.TheVariants.{Unmatched, NotDerived}
use Rattle.schema.specs.Schemas.{schema_of, binoid_of, LoreOf}

-- the laws of a sound file's binoid
abbrev pub laws_of : (f : List ℕ) → IsSound f → Laws (binoid_of f)
laws_of f sound =
    let s = sound_file f sound in
    pieces_of_laws (states f) s.few_states (schema_rules f) (ending_states f) (schema_rules_below f s) (endings_below f s)

-- what its rules and ending states name, below the most
module _ (f : List ℕ) (sound : IsSound f) where
  pub file_rules_below : RulesBelow most_states (schema_rules f)
  file_rules_below i k =
      let s = sound_file f sound in
      let (x, y, z) = schema_rules_below f s i k in
      (lt_of_lt_of_le x s.few_states, lt_of_lt_of_le y s.few_states, lt_of_lt_of_le z s.few_states)

  pub file_names_below : NamesBelow most_names (schema_rules f)
  file_names_below i k = let s = sound_file f sound in lt_of_lt_of_le (schema_names_below f s i k) s.few_names

  pub file_endings_below : EndsBelow most_states (ending_states f)
  file_endings_below j k = let s = sound_file f sound in lt_of_lt_of_le (endings_below f s j k) s.few_states

-- ---- what an answer at a page's end says of the word

module _ (f : List ℕ) (w : List Tag) where
  abbrev pub Means : Result Unit Flaw → Type 0
  Means (Ok _) = Valid (schema_of f) w
  Means (Err Unmatched) = Balanced w → ⊥
  Means (Err NotDerived) = Balanced w × (Valid (schema_of f) w → ⊥)

  -- no two answers hold of one word
  pub means_unique : (a b : Result Unit Flaw) → Means a → Means b → a ≡ b
  means_unique (Ok _) (Ok _) p q = refl
  means_unique (Ok _) (Err Unmatched) p q = absurd (q p.0)
  means_unique (Ok _) (Err NotDerived) p q = absurd (q.1 p)
  means_unique (Err Unmatched) (Ok _) p q = absurd (p q.0)
  means_unique (Err Unmatched) (Err Unmatched) p q = refl
  means_unique (Err Unmatched) (Err NotDerived) p q = absurd (p q.0)
  means_unique (Err NotDerived) (Ok _) p q = absurd (p.1 q)
  means_unique (Err NotDerived) (Err Unmatched) p q = absurd (q p.0)
  means_unique (Err NotDerived) (Err NotDerived) p q = refl

-- ---- the two tests at a page's end, by the schema itself

unfoldable pub ended_of : List ℕ → Stack Piece → Piece → Result Unit Flaw
ended_of f bottom c = cond (accepted (ending_states f) c) (Ok tt) (Err NotDerived)
ended_of f (push s h t) c = Err Unmatched

-- the form of a valid page
abbrev pub PageForm : List ℕ → Stack Piece → Piece → Type 0
PageForm f s c = ended_of f s c ≡ Ok tt

page_decided : (e : Result Unit Flaw) → Dec (e ≡ Ok tt)
page_decided (Ok _) = yes refl
page_decided (Err Unmatched) = no (λ e. false≢true (cc e))
page_decided (Err NotDerived) = no (λ e. false≢true (cc e))

pub form_decided : (f : List ℕ) (s : Stack Piece) (c : Piece) → Dec (PageForm f s c)
form_decided f s c = page_decided (ended_of f s c)

module _ (f : List ℕ) (sound : IsSound f) where
  piece_valid : {w : List Tag} {c : Piece} → Value (binoid_of f) w c
      → (accepted (ending_states f) c ≡ true) ↔ Valid (schema_of f) w
  piece_valid v =
      let s = sound_file f sound in
      piece_accepts (states f) s.few_states (schema_rules f) (ending_states f) (schema_rules_below f s) (endings_below f s) v

  accepted_means : {w : List Tag} {c : Piece} → Value (binoid_of f) w c → (t : Bool) → accepted (ending_states f) c ≡ t
      → Means f w (cond t (Ok tt) (Err NotDerived))
  accepted_means v true e = (piece_valid v).0 e
  accepted_means v false e = (value_balanced (binoid_of f) v, λ d. false≢true (sym e ∙ (piece_valid v).1 d))

  module _ (w : List Tag) where
    pub ended_means : (s : Stack Piece) (c : Piece) → Reduced (binoid_of f) w s c → Means f w (ended_of f s c)
    unfolding ended_of
    ended_means bottom c r = accepted_means (reduced_whole (binoid_of f) r) _ refl
    ended_means (push s h t) c r =
        λ b. let z : ◌≡◌ {A = ℕ} 0 1 = cc (balanced_bottom (binoid_of f) (laws_of f sound) b r) in omega arith

    pub valid_form : (s : Stack Piece) (c : Piece) → Reduced (binoid_of f) w s c → Valid (schema_of f) w ↔ PageForm f s c
    valid_form s c r =
        let m = ended_means s c r in
        (means_unique f w (ended_of f s c) (Ok tt) m, λ e. subst (Means f w) e m)

    pub valid_decided : (s : Stack Piece) (c : Piece) → Reduced (binoid_of f) w s c → Dec (Valid (schema_of f) w)
    valid_decided s c r = by (form_decided f s c)
      where
        by : Dec (PageForm f s c) → Dec (Valid (schema_of f) w)
        by (yes e) = yes ((valid_form s c r).1 e)
        by (no e) = no (λ v. e ((valid_form s c r).0 v))

-- ---- its lore

module _ (f lore : List ℕ) (sound : IsSound f) (taught : LoreOf f lore) where
  pub file_lore : IsLore most_states lore
  file_lore =
      let s = sound_file f sound in
      record {
        states = states f;
        rules = schema_rules f;
        ends = ending_states f;
        few = s.few_states;
        rules_below = schema_rules_below f s;
        names_below = file_names_below f sound;
        ends_below = endings_below f s;
        taught = taught;
      }

  pub lore_binoid : pieces lore ≡ binoid_of f
  lore_binoid =
      pieces_are (states f) (schema_rules f) (ending_states f) lore taught (file_rules_below f sound) (file_names_below f sound)
      (file_endings_below f sound)

  -- what is said of the operations of the lore's pieces, whatever it is, is so of the file's
  pub lore_carries : (P : ℕ → (ℕ → ℕ → ℕ) → (ℕ → ℕ → ℕ) → Type 0)
      → P (empty_in lore) (compose most_states (states_in lore)) (taught_wrap most_states lore)
      → P (unit most_states (states f)) (compose most_states (states f)) (wrap most_states (schema_rules f) (ending_states f))
  lore_carries P =
      subst (λ (X : Type 0). X)
      (λ i.
      P (taught.empty i) (compose most_states (taught.states i))
      (λ a r. taught-wrap most_states (states f) (schema_rules f) (ending_states f) lore taught (file_rules_below f sound)
      (file_names_below f sound) (file_endings_below f sound) a r i))

  -- ---- the two tests with the lore are those by the schema

  ending_is : (s : Stack Piece) (c : Piece) → ending_of lore s c ≡ ended_of f s c
  unfolding ending_of ended_of
  ending_is bottom c =
      ap (λ (t : Bool). cond t (Ok tt) (Err NotDerived))
      (accepts_are (states f) (schema_rules f) (ending_states f) lore taught (file_rules_below f sound) (file_names_below f sound)
      (file_endings_below f sound) c)
  ending_is (push s h t) c = refl

  pub ending_means : (w : List Tag) (s : Stack Piece) (c : Piece) → Reduced (binoid_of f) w s c → Means f w (ending_of lore s c)
  ending_means w s c r = subst (Means f w) (sym (ending_is s c)) (ended_means f sound w s c r)

  module _ (w : List Tag) (s : Stack Piece) (c : Piece) (r : Reduced (binoid_of f) w s c) where
    ending_iff : (a : Result Unit Flaw) → (ending_of lore s c ≡ a) ↔ Means f w a
    ending_iff a = (λ e. subst (Means f w) e (ending_means w s c r), means_unique f w (ending_of lore s c) a (ending_means w s c r))

    pub ending_page : (ending_of lore s c ≡ Ok tt) ↔ Valid (schema_of f) w
    ending_page = ending_iff (Ok tt)

    pub ending_unmatched : (ending_of lore s c ≡ Err Unmatched) ↔ (Balanced w → ⊥)
    ending_unmatched = ending_iff (Err Unmatched)

    pub ending_not_derived : (ending_of lore s c ≡ Err NotDerived) ↔ (Balanced w × (Valid (schema_of f) w → ⊥))
    ending_not_derived = ending_iff (Err NotDerived)
