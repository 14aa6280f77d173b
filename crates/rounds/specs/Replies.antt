-- The check's reply: the rounds and the images of a set that passed, or why the check refused it.
use Rattle.std.specs.Prelude.{Result}
use Rattle.rounds.specs.declared.Passed.{Passed}
use Rattle.rounds.specs.declared.CheckRefusal.{CheckRefusal}

abbrev pub CheckReply : Type 0
CheckReply = Result Passed CheckRefusal
