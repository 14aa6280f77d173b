-- What std prints of the three numbers are their decimals (TextLaws). Assumes nothing.
use Rattle.std.proofs.Common.{◌<◌, ◌^◌, rules}
use Rattle.line.proofs.TextLaws.{printed}
use Rattle.line.proofs.LineDisplay.fmt.Goals as goal

pub returns-clause-writes : goal.returns-clause-writes
returns-clause-writes g c =
    let l = c.args.self.now in
    let answer : l.answer < 2 ^ 64 = search rules in
    let number : l.number < 2 ^ 64 = search rules in
    let images : l.images < 2 ^ 64 = search rules in
    rw (printed l.answer answer, printed l.number number, printed l.images images) at c.write.ensures.writes
