use Rattle.passing.specs.Verdicts.{Rowing}
use lib.ListN.{length}
use Prim.Native.Nat.{◌-◌}
use Rattle.passing.proofs.row_at.Given as goal

abbrev pub invariant-loop-at : goal.invariant-loop-at
invariant-loop-at l = Rowing l.limit l.set.words l.is_ready l.run l.from l.at l.count

abbrev pub decreases-loop-at : goal.decreases-loop-at
decreases-loop-at l = length l.run - l.at
