use Rattle.recorder.proofs.extent_of.Goals as goal

pub returns : goal.returns
returns c = rw c.no_news.ensures
