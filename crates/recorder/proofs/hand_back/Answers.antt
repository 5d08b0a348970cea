use Rattle.recorder.proofs.hand_back.Goals as goal

pub returns : goal.returns
returns c = rw c.handed.ensures
