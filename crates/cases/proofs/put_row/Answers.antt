use Rattle.cases.specs.Answers.{row_bytes}
use Rattle.cases.proofs.put_row.Goals as goal

pub returns : goal.returns
unfolding row_bytes
returns c = c.put_three.ensures
