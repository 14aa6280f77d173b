-- Each test that fails names a field of a summary that the struct has not; where all hold, the last decides. Assumes nothing.
use mathlib.Core.Path.{◌≡◌}
use Prim.Native.Nat.{◌≤◌}
use lib.ListN.{length}
use native.Mathlib.Omega.{arith}
use borrow.Author.Rules.{rules}
use Rattle.pieces.specs.Pieces.{most_tags, pieces_long}
use Rattle.form.specs.Held.{tag_count}
use Rattle.summary.proofs.PackingLaws.{many_ends_fail, many_tags_fail, names_fail, summary_pass}
use Rattle.summary.proofs.is_summary.Goals as goal

ruleset answers = (many_ends_fail, many_tags_fail, rules)

pub returns-then-c-gt-TAGS : goal.returns-then-c-gt-TAGS
returns-then-c-gt-TAGS c = search answers

pub returns-then-c : goal.returns-then-c
returns-then-c c = search answers

pub returns-else-names_fit : goal.returns-else-names_fit
returns-else-names_fit c =
    let room : length c.args.s.now.names ≡ most_tags = search rules in
    let few : tag_count c.args.s.now.counts ≤ most_tags = omega arith in
    names_fail _ _ c.args.s.now room few c.names_fit.result c.names_fit.ensures c.if-names_fit.false

pub returns-then-names_fit : goal.returns-then-names_fit
returns-then-names_fit c =
    let names-room : length c.args.s.now.names ≡ most_tags = search rules in
    let values-room : length c.args.s.now.values ≡ pieces_long = search rules in
    let few : tag_count c.args.s.now.counts ≤ most_tags = omega arith in
    summary_pass _ _ c.args.s.now names-room few values-room c.requires c.names_fit.result c.pieces_fit.result c.names_fit.ensures
    c.if-names_fit.true c.pieces_fit.ensures
