-- A line that was written is printed; and the line of the first bytes of an input is the line of the whole (crate line, RoomLaws). Assumes nothing.
use Rattle.std.proofs.Common.{◌≡◌, ℕ, List, take, replicate, Option, None, Some, IfSome, Result, OnOk, refl, subst}
use Rattle.worktable.specs.Packed.{table_long}
use Rattle.std.specs.Io.KnownBytes.{Appends}
use Rattle.std.proofs.lemmas.Result.{on_ok_weaker}
use Rattle.line.specs.Lines.{room, text_of, Prints}
use Rattle.line.specs.declared.Line.{Line}
use Rattle.line.proofs.RoomLaws.{room_decides}
use Rattle.setcheck.specs.Lines.{IsPrinted}

pub line_printed : {T E : Type 0} (f : List ℕ) (l : Line) (t bytes : List ℕ) (old new : Option (List ℕ)) (r : Result T E)
    → Prints f (replicate table_long 0) l t → bytes ≡ text_of l → OnOk r (Appends old new bytes) → OnOk r (IsPrinted f old new)
line_printed f l t bytes old new r prints same wrote =
    on_ok_weaker {Q = IsPrinted f old new} r (λ appended. (l, t, prints, rw same at appended)) wrote

pub whole_printed : (input : Option (List ℕ)) (part : List ℕ) (old new : Option (List ℕ)) → IfSome input (λ xs. part ≡ take room xs)
    → IsPrinted part old new → (f : List ℕ) × IfSome input (λ xs. f ≡ xs) × IsPrinted f old new
whole_printed None part old new first printed = (part, tt, printed)
whole_printed (Some xs) part old new first (l, t, prints, appends) =
    let blank = replicate table_long 0 in
    (xs, refl, (l, t, room_decides xs blank l t (subst (λ (f : List ℕ). Prints f blank l t) first prints), appends))
