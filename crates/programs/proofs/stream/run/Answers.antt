use Rattle.programs.proofs.StreamLaws.{ran_some}
use Rattle.programs.proofs.stream.run.Goals as goal

pub returns : goal.returns
returns c = ran_some c.fill-came.result c.fill-came.new.buf _ _ c.by_head.result c.by_head.ensures
