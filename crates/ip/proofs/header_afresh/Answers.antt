use Rattle.ip.proofs.CodeLaws.{header_steps}
use Rattle.ip.proofs.header_afresh.Goals as goal

pub returns : goal.returns
returns c = header_steps _ _ _ _ _ _ c.set16.ensures c.set16-2.ensures c.ones_sum-c.ensures.0 c.set16-3.ensures
