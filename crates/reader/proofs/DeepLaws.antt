-- Where one go and the join differ (JoinReadLaws.antt): as many start tags as are allowed, and then an element. Each is readable and their
-- join has no tag more, but in one go the element's start is one tag too many. Each byte is one step. Assumes nothing.
use mathlib.Core.Path.{◌≡◌, refl, ap, ◌∙◌, subst}
use mathlib.Core.List.{List, [], ◌∷◌, ◌++◌}
use Prim.Native.Nat.{ℕ, zero, suc, ◌+◌, ◌≤◌}
use native.Mathlib.Omega.{arith}
use lib.ListN.{length, length-append}
use Rattle.words.specs.Tags.{start, Name, start_byte, end_byte}
use Rattle.words.specs.Binoid.{Binoid, Laws}
use Rattle.words.specs.Reduced.{Stack, bottom, push, tags}
use Rattle.words.specs.Reader.{reduced, Limited, fits, too_deep, limit, join}
use Rattle.words.proofs.StepLaws.{step_start, step_same, value_reduced}
use Rattle.words.proofs.LimitLaws.{limit_in, limit_out}
use Rattle.words.proofs.JoinLaws.{join_bottom}
use Rattle.reader.specs.Reads.{whole, refused, too_many, Refused, Reads, reads_all, reads_to}
use Rattle.reader.proofs.FormLaws.{form_empty}
use Rattle.reader.proofs.ReadsLaws.{all_readable_none}
use Rattle.reader.proofs.NextLaws.{AfterByte, after_step}

-- k start tags as bytes, and as a form

unfoldable pub opens : ℕ → ℕ → List ℕ
opens a zero = []
opens a (suc k) = opens a k ++ (a ∷ [])

unfoldable pub opened_form : {H : Type 0} → H → ℕ → ℕ → Stack H
opened_form h a zero = bottom
opened_form h a (suc k) = push (opened_form h a k) h (start a)

opens_length : (a k : ℕ) → length (opens a k) ≡ k
unfolding opens
opens_length a zero = refl
opens_length a (suc k) = let e = opens_length a k in rw length-append (omega arith)

pub opened_tags : {H : Type 0} (h : H) (a k : ℕ) → tags (opened_form h a k) ≡ k
unfolding opened_form tags
opened_tags h a zero = refl
opened_tags h a (suc k) = ap suc (opened_tags h a k)

module _ (A : ℕ) (B : Binoid) (n : ℕ) (L : Laws B) (a : ℕ) (name : Name A a) where
  -- a start tag more

  open_next : (k : ℕ) → AfterByte A B n (opens a k) (fits (opened_form B.unit a k) B.unit) → (l : Limited B.H)
      → limit B n (reduced (opened_form B.unit a (suc k)) B.unit) ≡ l → AfterByte A B n (opens a (suc k)) l
  unfolding opens opened_form
  open_next k (r, f) l e =
      after_step A B n L (opens a k) a r f (start_byte name) l (ap (limit B n) (step_start B (opened_form B.unit a k) B.unit a) ∙ e)

  opens_readable : (k : ℕ) → k ≤ n → AfterByte A B n (opens a k) (fits (opened_form B.unit a k) B.unit)
  unfolding opens opened_form
  opens_readable zero l = (all_readable_none A B n, form_empty A B n)
  opens_readable (suc k) l =
      open_next k (opens_readable k (omega arith)) (fits (opened_form B.unit a (suc k)) B.unit)
      (limit_in B n (opened_form B.unit a (suc k)) B.unit (rw opened_tags l))

  opens_refused : Refused A B n (opens a n ++ (a ∷ [])) too_many
  unfolding opens
  opens_refused =
      open_next n (opens_readable n (omega arith)) too_deep
      (limit_out B n (opened_form B.unit a (suc n)) B.unit (rw opened_tags (omega arith)))

  -- n start tags, and one more start tag with anything behind it

  pub reads_opens : Reads A B n (opens a n) (whole (opened_form B.unit a n) B.unit)
  reads_opens = let (r, f) = opens_readable n (omega arith) in reads_all r f

  pub reads_too_many : (after : List ℕ) → Reads A B n (opens a n ++ (a ∷ after)) (refused too_many n)
  reads_too_many after =
      subst (λ k. Reads A B n (opens a n ++ (a ∷ after)) (refused too_many k)) (opens_length a n)
      (reads_to (opens a n) a after (opens_readable n (omega arith)).0 opens_refused)

  -- an element

  abbrev pub element_value : B.H
  element_value = B.compose B.unit (B.wrap a B.unit)

  pub reads_element : 1 ≤ n → Reads A B n (a ∷ ((32 + a) ∷ [])) (whole bottom element_value)
  unfolding opens opened_form tags
  reads_element l =
      let (r, f) = opens_readable 1 l in
      let (h, g) = after_step A B n L (a ∷ []) (32 + a) r f (end_byte name) (fits bottom element_value)
      (ap (limit B n) (step_same B bottom B.unit B.unit a) ∙ limit_in B n bottom element_value (omega arith)) in
      reads_all h g

  -- the join has n tags, one go is refused
  pub join_opens_element : join B (reduced (opened_form B.unit a n) B.unit) bottom element_value
      ≡ reduced (opened_form B.unit a n) (B.compose B.unit element_value)
  join_opens_element = rw (join_bottom, value_reduced)
