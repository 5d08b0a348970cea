use Rattle.recorder.proofs.begun.Goals as goal

pub returns : goal.returns
returns c = rw c.extent_of.ensures
