-- What the check must answer, and leave in the worktable, is one thing. The refusals come in their order, each asked where those before
-- it fail, so no two apply; the rounds come to one decision; and the rows of the images ascend in one way. Assumes nothing.
use mathlib.Core.Path.{◌≡◌, refl, sym, ap, ◌∙◌, subst}
use mathlib.Core.List.Memᴰ
use mathlib.Core.List.{List, Memᴰ}
use mathlib.Core.Logic.{◌⊎◌, inl, inr}
use Prim.Native.Nat.{ℕ, zero, suc, ◌≤◌, ◌<◌}
use native.Mathlib.Omega.{arith}
use lib.ListN.{length}
use Rattle.std.specs.Prelude.{Ok, Err}
use Rattle.template.specs.Order.{IsSound, reading, faulty, number}
use Rattle.template.proofs.ShapeLaws.{sound_not_bad}
use Rattle.trees.specs.Verdict.{Decision, met, passed, used, Decides}
use Rattle.trees.proofs.BudgetLaws.{decides_unique}
use Rattle.rows.proofs.SortLaws.{ascending_unique}
use Rattle.worktable.specs.Packed.{table_long}
use Rattle.rounds.specs.declared.Passed.{Passed}
use Rattle.rounds.specs.declared.CheckRefusal.TheVariants as check
use Rattle.rounds.specs.Replies.{CheckReply}
use Rattle.rounds.specs.Checks.{EventOf, NewOf, HasPage, Rows, most_rounds, after_pass, zeroed, Lent, Decided, CheckSays}
use Rattle.rounds.proofs.ListedLaws.{pair_one_row}

-- ---- one list of rows

rows_included : (f : List ℕ) (r : ℕ) (rows rows' : List (List ℕ)) → Rows f r rows → Rows f r rows'
    → (row : List ℕ) → Memᴰ row rows → Memᴰ row rows'
rows_included f r rows rows' a b row m =
    let (p, i, c) = a.each_image row m in
    let (row', n, d) = b.every_image p i in
    Memᴰ.cast (pair_one_row row row' p c d) n

pub rows_unique : (f : List ℕ) (r : ℕ) (rows rows' : List (List ℕ)) → Rows f r rows → Rows f r rows' → rows ≡ rows'
rows_unique f r rows rows' a b =
    ascending_unique rows rows' a.ascending b.ascending (rows_included f r rows rows' a b) (rows_included f r rows' rows b a)

-- ---- a reply and a table, where a condition holds and where it fails

abbrev pub Promise : Type 1
Promise = CheckReply → List ℕ → Type 0

abbrev pub Unique : Promise → Type 0
Unique P = (r s : CheckReply) (t u : List ℕ) → P r t → P s u → (r ≡ s) × (t ≡ u)

abbrev pub Either : Type 0 → Promise → Promise → Promise
Either A P Q r t = (A × P r t) ⊎ ((A → ⊥) × Q r t)

either_unique : (A : Type 0) (P Q : Promise) → Unique P → Unique Q → Unique (Either A P Q)
either_unique A P Q p q r s t u (inl (a, x)) (inl (b, y)) = p r s t u x y
either_unique A P Q p q r s t u (inl (a, x)) (inr (b, y)) = absurd (b a)
either_unique A P Q p q r s t u (inr (a, x)) (inl (b, y)) = absurd (a b)
either_unique A P Q p q r s t u (inr (a, x)) (inr (b, y)) = q r s t u x y

-- one reply and one table
abbrev pub Exactly : CheckReply → List ℕ → Promise
Exactly a v r t = (r ≡ a) × (t ≡ v)

exactly_unique : (a : CheckReply) (v : List ℕ) → Unique (Exactly a v)
exactly_unique a v r s t u (e, d) (e', d') = (e ∙ sym e', d ∙ sym d')

-- ---- the promise in the order of the answers

module _ (f t : List ℕ) (budget : ℕ) where
  -- the answer of a decision, and the table
  abbrev pub Answered : Decision → Promise
  Answered (met r zero) s u = ⊥
  Answered (met r (suc zero)) s u = Exactly (Err (check.Mismatch r)) (zeroed t) s u
  Answered (met r (suc (suc zero))) s u = Exactly (Err (check.Invalid r)) (zeroed t) s u
  Answered (met r (suc (suc (suc zero)))) s u = Exactly (Err (check.TooDeep r)) (zeroed t) s u
  Answered (met r (suc (suc (suc (suc zero))))) s u = Exactly (Err (check.Crowded r)) (zeroed t) s u
  Answered (met r (suc (suc (suc (suc (suc k)))))) s u = ⊥
  Answered (passed r) s u = (rows : List (List ℕ)) × Rows f r rows × Exactly (Ok (record { rounds = r; images = length rows })) (after_pass rows t) s u
  Answered used s u = Exactly (Err (check.OutOfRounds budget)) (zeroed t) s u

  answered_unique : (d : Decision) → Unique (Answered d)
  answered_unique (met q zero) = λ r s u v a b. absurd a
  answered_unique (met q (suc zero)) = exactly_unique (Err (check.Mismatch q)) (zeroed t)
  answered_unique (met q (suc (suc zero))) = exactly_unique (Err (check.Invalid q)) (zeroed t)
  answered_unique (met q (suc (suc (suc zero)))) = exactly_unique (Err (check.TooDeep q)) (zeroed t)
  answered_unique (met q (suc (suc (suc (suc zero))))) = exactly_unique (Err (check.Crowded q)) (zeroed t)
  answered_unique (met q (suc (suc (suc (suc (suc k)))))) = λ r s u v a b. absurd a
  answered_unique (passed q) = λ r s u v (rows, x, a) (rows', y, b).
      exactly_unique (Ok (record { rounds = q; images = length rows })) (after_pass rows t) r s u v a
      (subst (λ (l : List (List ℕ)). Exactly (Ok (record { rounds = q; images = length l })) (after_pass l t) s v) (rows_unique f q rows' rows y x) b)
  answered_unique used = exactly_unique (Err (check.OutOfRounds budget)) (zeroed t)

  -- the rounds
  abbrev pub Rounded : Promise
  Rounded s u = (d : Decision) × Decides (EventOf f) (NewOf f) budget d × Answered d s u

  rounded_unique : Unique Rounded
  rounded_unique r s u v (d, x, a) (e, y, b) =
      answered_unique e r s u v (subst (λ (k : Decision). Answered k r u) (decides_unique (EventOf f) (NewOf f) budget d e x y) a) b

  -- a bad file
  abbrev pub Faulty : Type 0
  Faulty = (p : ℕ) × (reading f ≡ faulty p)

  abbrev pub Faulted : Promise
  Faulted s u = (p : ℕ) × (reading f ≡ faulty p) × Exactly (Err (check.BadFile p)) t s u

  faulted_unique : Unique Faulted
  faulted_unique r s u v (p, e, (a, b)) (q, d, (a', b')) =
      let same : p ≡ q = ap number (sym e ∙ d) in
      (a ∙ (ap (λ (k : ℕ). Err (check.BadFile k)) same ∙ sym a'), b ∙ sym b')

  -- all in their order
  abbrev pub NoBudget : Type 0
  NoBudget = (1 ≤ budget) × (budget ≤ most_rounds) → ⊥

  abbrev pub Paged : Promise
  Paged = Either (HasPage f → ⊥) (Exactly (Err check.NoPage) t) Rounded

  abbrev pub OrderedPromise : Promise
  OrderedPromise =
      Either (length t < table_long) (Exactly (Err check.ShortTable) t)
      (Either NoBudget (Exactly (Err check.BadBudget) t) (Either Faulty Faulted Paged))

  pub ordered_unique : Unique OrderedPromise
  ordered_unique =
      either_unique (length t < table_long) (Exactly (Err check.ShortTable) t) _ (exactly_unique (Err check.ShortTable) t)
      (either_unique NoBudget (Exactly (Err check.BadBudget) t) _ (exactly_unique (Err check.BadBudget) t)
      (either_unique Faulty Faulted _ faulted_unique
      (either_unique (HasPage f → ⊥) (Exactly (Err check.NoPage) t) Rounded (exactly_unique (Err check.NoPage) t) rounded_unique)))

  -- ---- every promise stands in the order

  lent_ordered : (s : CheckReply) (u : List ℕ) → Lent f t budget → Either Faulty Faulted Paged s u → OrderedPromise s u
  lent_ordered s u (room, low, high) x = inr (λ h. omega (arith, room, h), inr (λ none. none (low, high), x))

  sound_ordered : (s : CheckReply) (u : List ℕ) → Lent f t budget → IsSound f → Paged s u → OrderedPromise s u
  sound_ordered s u lent sound x = lent_ordered s u lent (inr (λ (p, e). sound_not_bad f p sound e, x))

  decided_ordered : (d : Decision) (s : CheckReply) (u : List ℕ) → Decided f t budget d → Answered d s u → OrderedPromise s u
  decided_ordered d s u (lent, sound, page, decides) a = sound_ordered s u lent sound (inr (λ none. none page, (d, decides, a)))

  passes : (p : Passed) (n : ℕ) → p.images ≡ n → ◌≡◌ {A = CheckReply} (Ok p) (Ok (record { rounds = p.rounds; images = n }))
  passes p n e = ap (λ (k : ℕ). Ok (record { rounds = p.rounds; images = k })) e

  pub says_ordered : (s : CheckReply) (u : List ℕ) → CheckSays f t budget s u → OrderedPromise s u
  says_ordered (Ok p) u (d, (rows, x, e, h)) = decided_ordered (passed p.rounds) (Ok p) u d (rows, x, (passes p (length rows) e, h))
  says_ordered (Err (check.Mismatch r)) u (d, h) = decided_ordered (met r 1) (Err (check.Mismatch r)) u d (refl, h)
  says_ordered (Err (check.Invalid r)) u (d, h) = decided_ordered (met r 2) (Err (check.Invalid r)) u d (refl, h)
  says_ordered (Err (check.TooDeep r)) u (d, h) = decided_ordered (met r 3) (Err (check.TooDeep r)) u d (refl, h)
  says_ordered (Err (check.Crowded r)) u (d, h) = decided_ordered (met r 4) (Err (check.Crowded r)) u d (refl, h)
  says_ordered (Err (check.OutOfRounds b)) u (e, d, h) = decided_ordered used (Err (check.OutOfRounds b)) u d (ap (λ (k : ℕ). Err (check.OutOfRounds k)) e, h)
  says_ordered (Err check.NoPage) u (lent, sound, none, h) = sound_ordered (Err check.NoPage) u lent sound (inl (none, (refl, h)))
  says_ordered (Err (check.BadFile p)) u (lent, e, h) = lent_ordered (Err (check.BadFile p)) u lent (inl ((p, e), (p, e, (refl, h))))
  says_ordered (Err check.BadBudget) u (room, none, h) = inr (λ l. omega (arith, room, l), inl (none, (refl, h)))
  says_ordered (Err check.ShortTable) u (l, h) = inl (l, (refl, h))

-- the check's reply and its worktable are determined
pub check_unique : (f t : List ℕ) (budget : ℕ) (r s : CheckReply) (t' t'' : List ℕ) → CheckSays f t budget r t' → CheckSays f t budget s t''
    → (r ≡ s) × (t' ≡ t'')
check_unique f t budget r s t' t'' a b =
    ordered_unique f t budget r s t' t'' (says_ordered f t budget r t' a) (says_ordered f t budget s t'' b)
