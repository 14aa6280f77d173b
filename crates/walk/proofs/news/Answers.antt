-- At row k the rows from the a-th up to the k-th are marked (NewsLaws). Assumes nothing.
use Rattle.walk.proofs.NewsLaws.{news_laws}
use Rattle.walk.proofs.news.Goals as goal

pub loop-k-init : goal.loop-k-init
loop-k-init c = search news_laws

pub loop-k-preserved : goal.loop-k-preserved
loop-k-preserved c = search news_laws

pub returns : goal.returns
returns c = search news_laws
