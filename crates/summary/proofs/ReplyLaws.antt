-- A reply of an answer and a summary is what was found: the summary itself beside an answer that is no refusal, zeros beside one. Assumes
-- nothing.
use mathlib.Core.Path.{◌≡◌, refl, sym}
use mathlib.Core.Bool.{true, false, false≢true}
use Rattle.std.specs.Prelude.{Result, Ok, Err}
use Rattle.std.specs.Result.{is_err}
use Rattle.form.specs.declared.Summary.{Summary}
use Rattle.summary.specs.declared.Reply.{Reply}
use Rattle.summary.specs.Packing.{zeros}
use Rattle.summary.specs.Replies.{reply_of, found_in}

pub reply_kept : {E : Type 0} (a : Result Unit E) (s : Summary) → is_err a ≡ false
    → ◌≡◌ {A = Reply E} (record { answer = a; summary = s }) (reply_of (found_in a s))
reply_kept (Ok _) s e = refl
reply_kept (Err r) s e = absurd (false≢true (sym e))

pub reply_refused : {E : Type 0} (a : Result Unit E) (s : Summary) → is_err a ≡ true
    → ◌≡◌ {A = Reply E} (record { answer = a; summary = zeros }) (reply_of (found_in a s))
reply_refused (Ok _) s e = absurd (false≢true e)
reply_refused (Err r) s e = refl
