use Rattle.recorder.proofs.call.terms_of.Goals as goal

pub returns : goal.returns
returns c = rw c.packet_limit.ensures
