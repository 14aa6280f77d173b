-- A reply: the answer, and beside it a summary, which is zeros throughout where the answer is a refusal (Rules, section 9). A refusal of
-- the bytes or of the tags is the reply's own, with its place where the reply has one.
use Rattle.std.specs.Prelude.{ℤ, Result, Ok, Err}
use Rattle.form.specs.declared.Summary.{Summary}
use Rattle.form.specs.declared.Clash.{Clash}
use Rattle.form.specs.declared.Clash.TheVariants as clash
use Rattle.reader.specs.declared.Stop.{Stop}
use Rattle.reader.specs.declared.Stop.TheVariants as stop
use Rattle.summary.specs.declared.FragmentRefusal.{FragmentRefusal}
use Rattle.summary.specs.declared.FragmentRefusal.TheVariants as fragment
use Rattle.summary.specs.declared.JoinRefusal.{JoinRefusal}
use Rattle.summary.specs.declared.JoinRefusal.TheVariants as joined
use Rattle.summary.specs.declared.DepthRefusal.{DepthRefusal}
use Rattle.summary.specs.declared.Reply.{Reply}
use Rattle.summary.specs.Packing.{zeros}

abbrev pub FragmentAnswer : Type 0
FragmentAnswer = Result Unit FragmentRefusal

abbrev pub JoinAnswer : Type 0
JoinAnswer = Result Unit JoinRefusal

abbrev pub FragmentReply : Type 0
FragmentReply = Reply FragmentRefusal

abbrev pub JoinReply : Type 0
JoinReply = Reply JoinRefusal

abbrev pub DepthReply : Type 0
DepthReply = Result ℤ DepthRefusal

-- what was found, as a reply
abbrev pub reply_of : {E : Type 0} → Result Summary E → Reply E
reply_of (Ok s) = record { answer = Ok tt; summary = s }
reply_of (Err e) = record { answer = Err e; summary = zeros }

-- what was found, from the answer and from where the summary stands
abbrev pub found_in : {E : Type 0} → Result Unit E → Summary → Result Summary E
found_in (Ok _) s = Ok s
found_in (Err e) s = Err e

abbrev pub stopped : Stop → FragmentRefusal
stopped (stop.NotATag p) = fragment.NotATag p
stopped (stop.Mismatch p) = fragment.Mismatch p
stopped (stop.TooDeep p) = fragment.TooDeep p

abbrev pub clashed : Clash → JoinRefusal
clashed (clash.Mismatch a b) = joined.Mismatch
clashed clash.TooDeep = joined.TooDeep
