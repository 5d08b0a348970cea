use Rattle.programs.proofs.StreamLaws.{told_as, told_none}
use Rattle.programs.proofs.stream.told.Goals as goal

pub returns-in_err-e : goal.returns-in_err-e
returns-in_err-e c = rw c.from_residual.ensures (told_none c.in_err-e.ensures)

pub returns : goal.returns
returns c = told_as c.in_ok-e.ensures c.put_last.ensures
