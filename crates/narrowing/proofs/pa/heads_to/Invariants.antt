use Prim.Native.Nat.{◌-◌}
use Rattle.narrowing.proofs.WalkLaws.{HeadsWritten}
use Rattle.narrowing.proofs.pa.heads_to.Given as goal

abbrev pub invariant-loop-entry : goal.invariant-loop-entry
invariant-loop-entry l = HeadsWritten l.o l.pid l.s l.tables l.initial.out l.to l.out l.at l.entry l.put

abbrev pub decreases-loop-entry : goal.decreases-loop-entry
decreases-loop-entry l = l.tables - l.entry
