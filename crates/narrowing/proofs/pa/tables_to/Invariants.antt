use lib.ListN.{length}
use Prim.Native.Nat.{◌-◌}
use Rattle.narrowing.proofs.WalkLaws.{TablesSofar}
use Rattle.narrowing.proofs.pa.tables_to.Given as goal

abbrev pub invariant-loop-end : goal.invariant-loop-end
invariant-loop-end l = TablesSofar l.o l.pid l.s l.tables l.initial.out l.to l.out l.at l.put

abbrev pub decreases-loop-end : goal.decreases-loop-end
decreases-loop-end l = length l.s - l.at
