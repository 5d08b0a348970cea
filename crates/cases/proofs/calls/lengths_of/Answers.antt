use Rattle.cases.specs.Calls.{lengths_of}
use Rattle.cases.proofs.calls.lengths_of.Goals as goal

pub returns : goal.returns
unfolding lengths_of
returns c = rw (c.be32.ensures.0, c.be32-2.ensures.0)
