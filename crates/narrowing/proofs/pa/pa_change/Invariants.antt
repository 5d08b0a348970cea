use lib.ListN.{length}
use Prim.Native.Nat.{◌-◌}
use Rattle.narrowing.proofs.WalkLaws.{ChangeSofar}
use Rattle.narrowing.proofs.pa.pa_change.Given as goal

abbrev pub invariant-loop-end : goal.invariant-loop-end
invariant-loop-end l = ChangeSofar l.o l.pid l.s l.tables l.at l.known.at l.known.change

abbrev pub decreases-loop-end : goal.decreases-loop-end
decreases-loop-end l = length l.s - l.at
