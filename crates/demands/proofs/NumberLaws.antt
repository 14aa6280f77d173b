-- An answer and its number name the reply, and a promise determines its reply (the `UniqueLaws` of the crates that answer). So an answer is
-- given exactly where the reply that it names is promised. Said once, for replies of any kind. Assumes nothing.
use mathlib.Core.Path.{◌≡◌, refl, sym, ap, ◌∙◌, subst}
use mathlib.Core.List.{List, [], ◌∷◌, Memᴰ}
use mathlib.Core.Logic.{◌↔◌}
use Prim.Native.Nat.{ℕ, zero, suc, ◌<◌}
use native.Mathlib.Omega.{arith}
use lib.ListN.{length, get_or}
use Rattle.entries.specs.Entries.{rule_symbols}
use Rattle.template.specs.Order.{SoundOf, reading_of, reading, answer, number}
use Rattle.template.specs.Order.{Reading}
use Rattle.std.specs.Prelude.{Ok, Err}
use Rattle.template.specs.Order.{faulty}
use Rattle.template.proofs.SoundLaws.{reading_sound_of}
use Rattle.template.proofs.ShapeLaws.{sound_not_bad_of}
use Rattle.demands.specs.First.{FileFirst}
use Rattle.demands.proofs.Sides.{in_words}

-- ---- replies in numbers

-- replies with a promise that determines them; `reply r a n` is the one that the answer a and the number n name, with what numbers do not
-- tell as it is in r
pub record Numbered (R : Type 0) : Type 1 where
  pub answer : R → ℕ
  pub number : R → ℕ
  pub reply : R → ℕ → ℕ → R
  pub named : (r : R) → r ≡ reply r (answer r) (number r)
  pub Says : R → Type 0
  pub unique : (r q : R) → Says r → Says q → r ≡ q

module _ {R : Type 0} (N : Numbered R) (r : R) (says : N.Says r) where
  -- an answer that has a number
  pub placed : (a n : ℕ) → N.answer (N.reply r a n) ≡ a → N.number (N.reply r a n) ≡ n
      → ((N.answer r ≡ a) × (N.number r ≡ n)) ↔ N.Says (N.reply r a n)
  placed a n e d = (
    λ (h, k). subst N.Says (N.named r ∙ (λ i. N.reply r (h i) (k i))) says,
    λ other. let same = N.unique r (N.reply r a n) says other in (ap N.answer same ∙ e, ap N.number same ∙ d),
  )

  -- an answer that has none
  pub bare : (a : ℕ) → N.answer (N.reply r a 0) ≡ a → ((n : ℕ) → N.reply r a n ≡ N.reply r a 0)
      → (N.answer r ≡ a) ↔ N.Says (N.reply r a 0)
  bare a e one = (
    λ h. subst N.Says (N.named r ∙ (λ i. N.reply r (h i) (N.number r)) ∙ one (N.number r)) says,
    λ other. ap N.answer (N.unique r (N.reply r a 0) says other) ∙ e,
  )

  pub numberless : (a : ℕ) → ((n : ℕ) → N.number (N.reply r a n) ≡ 0) → N.answer r ≡ a → N.number r ≡ 0
  numberless a none h =
      ap N.number (N.named r) ∙ ap (λ (a : ℕ). N.number (N.reply r a (N.number r))) h ∙ none (N.number r)

-- ---- a bad file

module _ (symbols : ℕ) (f : List ℕ) where
  -- a file that is not sound is bad at some place
  bad_somewhere : (SoundOf symbols f → ⊥) → (p : ℕ) × (reading_of symbols f ≡ faulty p)
  bad_somewhere none = by (reading_of symbols f) refl
    where
      by : (r : Reading) → reading_of symbols f ≡ r → (p : ℕ) × (reading_of symbols f ≡ faulty p)
      by (Ok s) e = absurd (none (reading_sound_of symbols f s e).0)
      by (Err x) e = (x.place, e)

  -- 7 is given with the place where the file is bad, and only where nothing before it is due
  module _ (Due : Type 0) (a n : ℕ) (given : (p : ℕ) → ((a ≡ 7) × (n ≡ p)) ↔ (Due × (reading_of symbols f ≡ faulty p))) where
    pub bad_exactly : (a ≡ 7) ↔ (Due × (SoundOf symbols f → ⊥))
    bad_exactly = (
      λ e. let (due, bad) = (given n).0 (e, refl) in (due, λ sound. sound_not_bad_of symbols f n sound bad),
      λ (due, none). let (p, bad) = bad_somewhere none in ((given p).1 (due, bad)).0,
    )

    pub bad_place : a ≡ 7 → (answer (reading_of symbols f) ≡ 7) × (n ≡ number (reading_of symbols f))
    bad_place e = let (due, bad) = (given n).0 (e, refl) in (ap answer bad, sym (ap number bad))

  -- where nothing is before it
  module _ (a n : ℕ) (given : (p : ℕ) → ((a ≡ 7) × (n ≡ p)) ↔ (reading_of symbols f ≡ faulty p)) where
    first : (p : ℕ) → ((a ≡ 7) × (n ≡ p)) ↔ (Unit {0} × (reading_of symbols f ≡ faulty p))
    first p = in_words (given p) (λ bad. (tt, bad)) (λ (_, bad). bad)

    pub first_exactly : (a ≡ 7) ↔ (SoundOf symbols f → ⊥)
    first_exactly = in_words (bad_exactly (Unit {0}) a n first) (λ (_, none). none) (λ none. (tt, none))

    pub first_place : a ≡ 7 → (answer (reading_of symbols f) ≡ 7) × (n ≡ number (reading_of symbols f))
    first_place = bad_place (Unit {0}) a n first

pub file_first : (f : List ℕ) (a n : ℕ) → ((p : ℕ) → ((a ≡ 7) × (n ≡ p)) ↔ (reading f ≡ faulty p)) → FileFirst f a n
file_first f a n given =
    record { bad_file = first_exactly rule_symbols f a n given; place = first_place rule_symbols f a n given }

-- ---- a number of a list

pub listed : (xs : List ℕ) (k : ℕ) → k < length xs → Memᴰ (get_or xs k 0) xs
listed [] k h = absurd (omega (arith, h))
listed (x ∷ xs) zero h = Memᴰ.head refl
listed (x ∷ xs) (suc k) h = Memᴰ.tail (listed xs k (omega (arith, h)))
