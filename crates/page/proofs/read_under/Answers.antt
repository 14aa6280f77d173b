-- The schema taught is that of a sound file. What the reading of the fragment says is then said of the page: a refusal as it stands, and a
-- summary by the two tests at the end. Assumes nothing.
use Rattle.std.proofs.lemmas.Result.{err_from_is_err_and}
use Rattle.summary.proofs.FragmentLaws.{says_found}
use Rattle.page.proofs.PageLaws.{stopped_page, summarised_page, page_turns}
use Rattle.page.proofs.read_under.Goals as goal

pub returns-in_err-s : goal.returns-in_err-s
returns-in_err-s c =
    let p = err_from_is_err_and c.from_residual.result c.from_residual.ensures.1 in
    let says = says_found _ _ c.args.sound.is_read _ c.teach.ensures c.args.bytes.now c.summarise.result c.summarise.ensures in
    rw (p.1, p.2) (stopped_page _ c.args.bytes.now c.summarise.result says _ c.in_err-s.was)

pub tested-requires : goal.tested-requires
tested-requires c = search (page_turns, c.in_ok-s.was)

pub returns : goal.returns
returns c =
    let says = says_found _ _ c.args.sound.is_read _ c.teach.ensures c.args.bytes.now c.summarise.result c.summarise.ensures in
    summarised_page _ c.args.bytes.now c.summarise.result says _ c.in_ok-s.was _ c.teach.ensures _ c.tested.ensures
