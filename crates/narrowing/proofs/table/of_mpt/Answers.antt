use mathlib.Core.Path.{refl}
use Rattle.narrowing.proofs.table.of_mpt.Goals as goal

pub returns-in-Some : goal.returns-in-Some
returns-in-Some c = (refl, rw c.in-Some.is at c.mpt_without.ensures)

pub returns-in-None : goal.returns-in-None
returns-in-None c = rw c.in-None.is at c.mpt_without.ensures
