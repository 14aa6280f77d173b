-- A word is mismatched exactly when the reader says so (specs/Balance.antt, specs/Reader.antt): read from any outcome, the balanced word
-- in a clash leaves its start tag on top, which the end tag then does not fit. So every word has a reduced form or is mismatched, never
-- both. Assumes nothing.
use mathlib.Core.Path.{◌≡◌, refl, sym, ap₂, ◌∙◌, subst}
use mathlib.Core.List.{List, ◌∷◌, ◌++◌}
use mathlib.Core.Logic.{◌↔◌, ◌⊎◌, inl, inr}
use Prim.Native.Nat.{ℕ}
use native.Mathlib.Omega.{arith}
use Rattle.words.specs.Tags.{Tag, start, end}
use Rattle.words.specs.Balance.{Balanced, Mismatched, clash}
use Rattle.words.specs.Binoid.{Binoid, Laws}
use Rattle.words.specs.Reduced.{Stack, push, Reduced}
use Rattle.words.specs.Reader.{Outcome, reduced, differ, nothing_read, run, read}
use Rattle.words.proofs.ValueLaws.{balanced_value}
use Rattle.words.proofs.ReducedLaws.{balanced_iff}
use Rattle.words.proofs.StepLaws.{step_start, step_other}
use Rattle.words.proofs.ReadLaws.{Told, run_append, run_differ, run_tag, run_unit, run_reduced, told_read, reduced_unique}

pub reduced_not_differ : {H : Type 0} {s : Stack H} {c : H} {a b : ℕ} → reduced s c ≡ differ a b → ⊥
reduced_not_differ e = let z : ◌≡◌ {A = ℕ} 0 1 = cc e in omega arith

module _ (B : Binoid) (L : Laws B) where
  -- a clash is met

  pub run_clash : (a b : ℕ) (u y : List Tag) → Balanced u → (a ≡ b → ⊥) → (s : Stack B.H) (c : B.H)
      → run B (reduced s c) (start a ∷ (u ++ (end b ∷ y))) ≡ differ a b
  run_clash a b u y p n s c =
      let (h, v) = balanced_value B p in
      let o = push s c (start a) in
      rw (
        run_tag B s c (start a),
        step_start,
        run_append B (reduced o B.unit) u (end b ∷ y),
        run_unit B L v o,
        run_tag,
        step_other B s c h a b n,
      ) (run_differ B a b y)

  clash_differs : (a b : ℕ) (u y : List Tag) → Balanced u → (a ≡ b → ⊥) → (o : Outcome B.H)
      → (d e : ℕ) × (run B o (start a ∷ (u ++ (end b ∷ y))) ≡ differ d e)
  clash_differs a b u y p n (reduced s c) = (a, b, run_clash a b u y p n s c)
  clash_differs a b u y p n (differ d e) = (d, e, run_differ B d e (start a ∷ (u ++ (end b ∷ y))))

  pub run_mismatched : {w : List Tag} → Mismatched w → (o : Outcome B.H) → (a b : ℕ) × (run B o w ≡ differ a b)
  run_mismatched (clash {a = a} {b = b} x {u = u} y p n) o =
      let (d, e, f) = clash_differs a b u y p n (run B o x) in
      (d, e, run_append B o x (start a ∷ (u ++ (end b ∷ y))) ∙ f)

  -- one of the two, never both

  pub never_both : {w : List Tag} {s : Stack B.H} {c : B.H} → Reduced B w s c → Mismatched w → ⊥
  never_both r m = let (a, b, e) = run_mismatched m (nothing_read B) in reduced_not_differ (sym (run_reduced B L r) ∙ e)

  pub balanced_not_mismatched : {w : List Tag} → Balanced w → Mismatched w → ⊥
  balanced_not_mismatched b m = never_both ((balanced_iff B).0 b).1 m

  pub one_of : (w : List Tag) → ((s : Stack B.H) × (c : B.H) × Reduced B w s c) ⊎ Mismatched w
  one_of w = from (read B w) (told_read B L w)
    where
      from : (o : Outcome B.H) → Told B w o → ((s : Stack B.H) × (c : B.H) × Reduced B w s c) ⊎ Mismatched w
      from (reduced s c) r = inl (s, c, r)
      from (differ a b) m = inr m

  -- an outcome that tells of a word tells all

  pub told_reduced : (w : List Tag) (o : Outcome B.H) → Told B w o → (s : Stack B.H) (c : B.H)
      → (o ≡ reduced s c) ↔ Reduced B w s c
  told_reduced w (reduced r d) t s c =
      (λ e. subst (λ o. Told B w o) e t, λ p. let (e, f) = reduced_unique B L t p in ap₂ reduced e f)
  told_reduced w (differ a b) t s c = (λ e. subst (λ o. Told B w o) e t, λ p. absurd (never_both p t))

  pub told_differ : (w : List Tag) (o : Outcome B.H) → Told B w o → ((a b : ℕ) × (o ≡ differ a b)) ↔ Mismatched w
  told_differ w (reduced s c) t = (λ (a, b, e). absurd (reduced_not_differ e), λ m. absurd (never_both t m))
  told_differ w (differ a b) t = (λ e. t, λ m. (a, b, refl))

  -- the reader's answers and the definitions are one

  pub read_is_reduced : (w : List Tag) (s : Stack B.H) (c : B.H) → (read B w ≡ reduced s c) ↔ Reduced B w s c
  read_is_reduced w = told_reduced w (read B w) (told_read B L w)

  pub read_is_differ : (w : List Tag) → ((a b : ℕ) × (read B w ≡ differ a b)) ↔ Mismatched w
  read_is_differ w = told_differ w (read B w) (told_read B L w)
