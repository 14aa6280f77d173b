-- The start stays marked and each mark justified, and a pass that adds none has kept every rule (CloseLaws). Assumes nothing.
use Rattle.std.proofs.Common.{rules}
use Rattle.useful.proofs.CloseLaws.{reached_saturated}
use Rattle.useful.proofs.reached.Goals as goal

pub returns : goal.returns
returns c =
    reached_saturated c.args.rules.now c.args.productive c.requires.rules_in_range c.requires.marks_all _ (λ m next e. search rules) _
    c.saturate.ensures
