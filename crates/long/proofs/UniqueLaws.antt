-- Splitting says one thing of a file and an output (specs/Splits.antt). The ordinary file is a sound file of given numbers and entries, so
-- there is one. Of the four answers each excludes the others: a bad file is not sound, what fits does not fail to, and the one ordinary file
-- is longer than the output or is not. Assumes nothing.
use mathlib.Core.Path.{◌≡◌, refl, sym, ap, ap₂, ◌∙◌}
use mathlib.Core.List.{List, ◌++◌}
use Prim.Native.Nat.{ℕ, ◌≤◌, ◌<◌}
use native.Mathlib.Omega.{arith}
use lib.ListN.{length, drop}
use Rattle.template.specs.Order.{SoundOf, reading_of, number, answer}
use Rattle.template.specs.Order.{faulty}
use Rattle.template.proofs.SoundLaws.{sound_reading_of}
use Rattle.save.proofs.UniqueLaws.{sound_entries_same}
use Rattle.long.specs.Rules.{long_symbols}
use Rattle.std.specs.Prelude.{Ok, Err}
use Rattle.long.specs.Splits.{Shortens, SplitReply, SplitSays}
use Rattle.long.specs.declared.SplitRefusal.TheVariants.{BadFile, TooMany, Short}

-- ---- one ordinary file

pub shortens_unique : (f F G : List ℕ) → Shortens f F → Shortens f G → F ≡ G
shortens_unique f F G a b =
    sound_entries_same F G a.bytes b.bytes a.sound b.sound (a.names_same ∙ sym b.names_same)
    (a.nonterminals_are ∙ sym b.nonterminals_are) (a.states_same ∙ sym b.states_same)
    (λ e. (λ m. (b.rules_are e).1 ((a.rules_are e).0 m), λ m. (a.rules_are e).1 ((b.rules_are e).0 m)))
    (λ e. rw (a.schema_same, b.schema_same) (λ m. m, λ m. m)) (λ e. rw (a.endings_same, b.endings_same) (λ m. m, λ m. m))

-- ---- one answer

module _ (f out : List ℕ) where
  bad_sound : (p : ℕ) → reading_of long_symbols f ≡ faulty p → SoundOf long_symbols f → ⊥
  bad_sound p e s = let z : ◌≡◌ {A = ℕ} 7 0 = ap answer (sym e ∙ sound_reading_of long_symbols f s) in omega arith

  -- the ordinary file is longer than the output, or it is not
  short_long : (F G : List ℕ) → Shortens f F → Shortens f G → length out < length F → length G ≤ length out → ⊥
  short_long F G a b h k = omega (arith, ap length (shortens_unique f F G a b))

  written_same : (F G : List ℕ) (n m : ℕ) → Shortens f F → Shortens f G → n ≡ length F → m ≡ length G
      → (n ≡ m) × (F ++ drop n out ≡ G ++ drop m out)
  written_same F G n m a b h k =
      let same = shortens_unique f F G a b in
      let size : n ≡ m = h ∙ ap length same ∙ sym k in
      (size, ap₂ (λ (x : List ℕ) (i : ℕ). x ++ drop i out) same size)

pub split_unique : (f out out' out'' : List ℕ) (r q : SplitReply) → SplitSays f out r out' → SplitSays f out q out''
    → (r ≡ q) × (out' ≡ out'')
split_unique f out out' out'' (Err (BadFile p)) (Err (BadFile q)) (e, a) (d, b) = (ap (λ (p : ℕ). Err (BadFile p)) (ap number (sym e ∙ d)), a ∙ sym b)
split_unique f out out' out'' (Err (BadFile p)) (Err TooMany) (e, a) (s, none, b) = absurd (bad_sound f out p e s)
split_unique f out out' out'' (Err (BadFile p)) (Err Short) (e, a) (s, fit, file, b) = absurd (bad_sound f out p e s)
split_unique f out out' out'' (Err (BadFile p)) (Ok m) (e, a) (s, fit, b) = absurd (bad_sound f out p e s)
split_unique f out out' out'' (Err TooMany) (Err (BadFile q)) (s, none, a) (d, b) = absurd (bad_sound f out q d s)
split_unique f out out' out'' (Err TooMany) (Err TooMany) (s, no-fit, a) (t, none, b) = (refl, a ∙ sym b)
split_unique f out out' out'' (Err TooMany) (Err Short) (s, no-fit, a) (t, fit, file, b) = absurd (no-fit fit)
split_unique f out out' out'' (Err TooMany) (Ok m) (s, no-fit, a) (t, fit, b) = absurd (no-fit fit)
split_unique f out out' out'' (Err Short) (Err (BadFile q)) (s, fit, file, a) (d, b) = absurd (bad_sound f out q d s)
split_unique f out out' out'' (Err Short) (Err TooMany) (s, fit, file, a) (t, no-fit, b) = absurd (no-fit fit)
split_unique f out out' out'' (Err Short) (Err Short) (s, fit, file, a) (t, fit', file', b) = (refl, a ∙ sym b)
split_unique f out out' out'' (Err Short) (Ok m) (s, fit, (F, x, h), a) (t, fit', (G, y, k, l, b)) =
    absurd (short_long f out F G x y h (omega arith))
split_unique f out out' out'' (Ok n) (Err (BadFile q)) (s, fit, a) (d, b) = absurd (bad_sound f out q d s)
split_unique f out out' out'' (Ok n) (Err TooMany) (s, fit, a) (t, no-fit, b) = absurd (no-fit fit)
split_unique f out out' out'' (Ok n) (Err Short) (s, fit, (F, x, h, l, a)) (t, fit', (G, y, k), b) =
    absurd (short_long f out G F y x k (omega arith))
split_unique f out out' out'' (Ok n) (Ok m) (s, fit, (F, x, h, l, a)) (t, fit', (G, y, k, o, b)) =
    let same = written_same f out F G n m x y h k in
    (ap (λ (n : ℕ). Ok n) same.0, a ∙ same.1 ∙ sym b)
