use Rattle.fragments.proofs.GrowLaws.{middle_joined, middle_discarded, middle_absent}
use Rattle.fragments.proofs.Held.middle.Goals as goal

pub returns-in-At : goal.returns-in-At
returns-in-At c = middle_joined (rw c.in-At.is at c.grow.ensures)

pub returns-in-Discarded : goal.returns-in-Discarded
returns-in-Discarded c = middle_discarded (rw c.in-Discarded.is at c.grow.ensures)

pub returns-in-Absent : goal.returns-in-Absent
returns-in-Absent c = middle_absent (rw c.in-Absent.is at c.grow.ensures)
