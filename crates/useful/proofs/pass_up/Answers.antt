-- A step upward at each rule is a pass (PassLaws). Assumes nothing.
use Rattle.std.proofs.Common.{rules}
use Rattle.useful.specs.Marks.{KeptUp}
use Rattle.useful.proofs.PassLaws.{steps_passed}
use Rattle.useful.proofs.pass_up.Goals as goal

pub returns : goal.returns
returns c = steps_passed _ (KeptUp c.args.rules.now) _ _ _ _ (λ i m m' h e. search rules) c.pass.ensures
