use Rattle.programs.proofs.stream.unasked.Goals as goal

pub returns : goal.returns
returns c = rw c.no_counts.ensures
