-- A step downward at each rule is a pass (PassLaws). Assumes nothing.
use Rattle.std.proofs.Common.{rules}
use Rattle.useful.specs.Marks.{KeptDown}
use Rattle.useful.proofs.PassLaws.{steps_passed}
use Rattle.useful.proofs.pass_down.Goals as goal

pub returns : goal.returns
returns c =
    steps_passed _ (KeptDown c.args.rules.now c.args.productive) _ _ _ _ (λ i m m' h e. search rules) c.pass.ensures
