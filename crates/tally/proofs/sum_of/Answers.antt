use Rattle.tally.proofs.TallyLaws.{sum_or}
use Rattle.tally.proofs.sum_of.Goals as goal

pub returns : goal.returns
returns c = rw c.unwrap_or.ensures (sum_or _ _ c.added.result c.added.ensures)
