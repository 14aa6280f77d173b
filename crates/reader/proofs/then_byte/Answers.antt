-- The class of the byte names the tag that it spells, or says that there is none; the tag's step, a refusal with its place, is then the
-- byte's. Assumes nothing.
use Rattle.std.proofs.Common.{◌≡◌, ap, Ok, Err, rules}
use Rattle.std.specs.Result.{MatchResult}
use Rattle.std.proofs.lemmas.Result.{MatchResult-weaker, err_from_is_err_and}
use Rattle.words.specs.declared.Tag.TheVariants.{Start, End}
use Rattle.reader.specs.Feeds.{stop_at}
use Rattle.reader.proofs.FeedLaws.{spelled, feeds}
use Rattle.reader.proofs.then_byte.Goals as goal
use Rattle.reader.proofs.then_byte.Goals.{in-Start, in-End}

pub returns : goal.returns
returns c =
    let k = spelled c.args.known c.args.byte c.class_of.result c.ok_or.result c.in_ok-tag.tag in
    let m : MatchResult c.match-tag.step (λ x. c.map_err.result ≡ Ok x) (λ e. c.map_err.result ≡ Err (stop_at e c.args.at)) =
    MatchResult-weaker c.match-tag.step c.map_err.ensures.cases (λ x p. p)
    (λ e p. let q = err_from_is_err_and c.map_err.result p in rw q.1 (ap Err (search (rules, q.2)))) in
    elim c.match-tag.branch [
      | in-Start w ↦
          rw (w.names-is, w.values-is)
          (search (feeds, k (Start w.in-Start.a) c.class_of.ensures c.ok_or.ensures.ok_part c.in_ok-tag.was w.in-Start.is, w.then_tag-step.ensures, rw w.step-is at m))
      | in-End w ↦
          rw (w.names-is, w.values-is)
          (search (feeds, k (End w.in-End.a) c.class_of.ensures c.ok_or.ensures.ok_part c.in_ok-tag.was w.in-End.is, w.then_tag-step-in-End.ensures, rw w.step-is at m))
    ]
