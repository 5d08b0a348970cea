use lib.ListN.{length}
use Prim.Native.Nat.{◌-◌}
use Rattle.narrowing.proofs.CountLaws.{Tallying}
use Rattle.narrowing.proofs.counting.count_tables.Given as goal

abbrev pub invariant-loop-end : goal.invariant-loop-end
invariant-loop-end l = Tallying l.s l.tables l.o l.t l.at

abbrev pub decreases-loop-end : goal.decreases-loop-end
decreases-loop-end l = length l.s - l.at
