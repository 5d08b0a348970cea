use Rattle.recorder.proofs.not_pushed.Goals as goal

pub returns : goal.returns
returns c = rw c.counts_of.ensures
