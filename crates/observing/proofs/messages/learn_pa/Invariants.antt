use lib.ListN.{length}
use Prim.Native.Nat.{◌-◌}
use Rattle.observing.proofs.TableSteps.{TablesSofar}
use Rattle.observing.proofs.messages.learn_pa.Given as goal

abbrev pub invariant-loop-end : goal.invariant-loop-end
invariant-loop-end l = TablesSofar l.s l.id l.tables l.initial.e l.initial.kept l.initial.map_room l.e l.at l.kept l.map_room

abbrev pub decreases-loop-end : goal.decreases-loop-end
decreases-loop-end l = length l.s - l.at
