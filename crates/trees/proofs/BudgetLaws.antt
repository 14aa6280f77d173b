-- The deciding round is one, and a larger budget only changes the answer that the budget was used (specs/Verdict.antt): of two rounds that
-- decide, the earlier would stand among the quiet rounds with a new image before the later. And where images only come, a new one in each
-- of n rounds makes n distinct ones, so one round more than there may be images meets event 4, and some round decides. Assumes nothing.
use mathlib.Core.Path.{◌≡◌, refl, ap, ap₂}
use mathlib.Core.List.{List}
use Prim.Native.Nat.{ℕ, suc, ◌≤◌, ◌<◌}
use native.Mathlib.Decide.{dec_lt}
use native.Mathlib.Omega.{arith}
use Rattle.words.specs.Tags.{Tag}
use Rattle.words.specs.Binoid.{Binoid}
use Rattle.template.specs.Grammar.{Symbol}
use Rattle.trees.specs.Events.{Image, Crowded, New, Event}
use Rattle.trees.specs.Verdict.{Decision, met, passed, used, Quiet, WentOn, Decides}
use Rattle.trees.proofs.DistinctLaws.{many}
use Rattle.trees.proofs.EventLaws.{image_later}

-- decisions that differ

pub met_not_passed : (q k r : ℕ) → met q k ≡ passed r → ⊥
met_not_passed q k r e = let z : ◌≡◌ {A = ℕ} 0 1 = cc e in omega (arith, z)

pub met_not_used : (q k : ℕ) → met q k ≡ used → ⊥
met_not_used q k e = let z : ◌≡◌ {A = ℕ} 0 1 = cc e in omega (arith, z)

pub passed_not_used : (r : ℕ) → passed r ≡ used → ⊥
passed_not_used r e = let z : ◌≡◌ {A = ℕ} 0 1 = cc e in omega (arith, z)

module _ (Event : ℕ → ℕ → Type 0) (New : ℕ → Type 0) where
  -- of two rounds up to which the rounds went on and at which they did not, neither is earlier
  not_earlier : {q r : ℕ} → 1 ≤ q → (Quiet Event New q × New q → ⊥) → WentOn Event New r → q < r → ⊥
  not_earlier {q} h stop went l = stop (went q h l)

  same_round : {q r : ℕ} → 1 ≤ q → 1 ≤ r → (Quiet Event New q × New q → ⊥) → (Quiet Event New r × New r → ⊥)
      → WentOn Event New q → WentOn Event New r → q ≡ r
  same_round {q} {r} hq hr sq sr wq wr = from (dec_lt q r) (dec_lt r q)
    where
      from : Dec (q < r) → Dec (r < q) → q ≡ r
      from (yes l) d = absurd (not_earlier hq sq wr l)
      from (no l) (yes k) = absurd (not_earlier hr sr wq k)
      from (no l) (no k) = omega (arith, l, k)

  same_event : {r j k : ℕ} → Event r j → ((i : ℕ) → i < j → Event r i → ⊥) → Event r k → ((i : ℕ) → i < k → Event r i → ⊥) → j ≡ k
  same_event {r} {j} {k} a f b g = from (dec_lt j k) (dec_lt k j)
    where
      from : Dec (j < k) → Dec (k < j) → j ≡ k
      from (yes l) d = absurd (g j l a)
      from (no l) (yes h) = absurd (f k h b)
      from (no l) (no h) = omega (arith, l, h)

  event_stops : {r k : ℕ} → Event r k → Quiet Event New r × New r → ⊥
  event_stops {k = k} e (quiet, new) = quiet k e

  old_stops : {r : ℕ} → (New r → ⊥) → Quiet Event New r × New r → ⊥
  old_stops none (quiet, new) = none new

  -- one decision

  pub decides_unique : (budget : ℕ) (d e : Decision) → Decides Event New budget d → Decides Event New budget e → d ≡ e
  decides_unique budget (met q j) (met r k) (hq, lq, wq, a, f) (hr, lr, wr, b, g) =
      let e : q ≡ r = same_round hq hr (event_stops a) (event_stops b) wq wr in
      ap₂ met e (same_event (rw e at a) (rw e at f) b g)
  decides_unique budget (met q j) (passed r) (hq, lq, wq, a, f) (hr, lr, wr, quiet, none) =
      let e : q ≡ r = same_round hq hr (event_stops a) (old_stops none) wq wr in
      absurd (quiet j (rw e at a))
  decides_unique budget (passed q) (met r k) (hq, lq, wq, quiet, none) (hr, lr, wr, b, g) =
      let e : q ≡ r = same_round hq hr (old_stops none) (event_stops b) wq wr in
      absurd (quiet k (rw e b))
  decides_unique budget (passed q) (passed r) (hq, lq, wq, quiet, none) (hr, lr, wr, still, never) =
      ap passed (same_round hq hr (old_stops none) (old_stops never) wq wr)
  decides_unique budget (met q j) used (hq, lq, wq, a, f) went = absurd (event_stops a (went q hq lq))
  decides_unique budget (passed q) used (hq, lq, wq, quiet, none) went = absurd (old_stops none (went q hq lq))
  decides_unique budget used (met r k) went (hr, lr, wr, b, g) = absurd (event_stops b (went r hr lr))
  decides_unique budget used (passed r) went (hr, lr, wr, quiet, none) = absurd (old_stops none (went r hr lr))
  decides_unique budget used used went on = refl

  -- under a larger budget, the same

  pub decides_larger : {budget more : ℕ} (d : Decision) → Decides Event New budget d → (d ≡ used → ⊥) → budget ≤ more
      → Decides Event New more d
  decides_larger (met r k) (h, l, w, a, f) n b = (h, omega (arith, l, b), w, a, f)
  decides_larger (passed r) (h, l, w, quiet, none) n b = (h, omega (arith, l, b), w, quiet, none)
  decides_larger used went n b = absurd (n refl)

-- one round more than there may be images

module _ (Rule : ℕ → List Symbol → Type 0) (B : Binoid) (Valid : List Tag → Type 0) (most cap : ℕ) where
  pub decided_first : Decides (Event Rule B Valid most cap) (New Rule B Valid most cap) (suc cap) used → ⊥
  decided_first went =
      let images = many (Image Rule B Valid most cap) (λ r p i. image_later (omega arith) i) (suc cap) (λ r h.
      let new = (went (suc r) (omega arith) (omega (arith, h))).1 in
      (new.image, new.here, new.not_before)) in
      let crowded : Crowded Rule B Valid most cap (suc cap) = record {
        images = images.members;
        distinct = images.distinct;
        are_images = images.all;
        many = rw images.count (omega arith);
      } in
      (went (suc cap) (omega arith) (omega arith)).0 4 crowded
