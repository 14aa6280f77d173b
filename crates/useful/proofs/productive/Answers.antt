-- Each mark stays justified, and a pass that adds none has kept every rule (CloseLaws). Assumes nothing.
use Rattle.std.proofs.Common.{rules}
use Rattle.useful.proofs.CloseLaws.{productive_saturated}
use Rattle.useful.proofs.productive.Goals as goal

pub returns : goal.returns
returns c = productive_saturated c.args.rules.now _ (λ m next e. search rules) _ c.saturate.ensures
