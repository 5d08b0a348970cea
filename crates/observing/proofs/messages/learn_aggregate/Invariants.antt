use lib.ListN.{length}
use Prim.Native.Nat.{◌-◌}
use Rattle.observing.proofs.MessageSteps.{PartsSofar}
use Rattle.observing.proofs.messages.learn_aggregate.Given as goal

abbrev pub invariant-loop-part : goal.invariant-loop-part
invariant-loop-part l = PartsSofar l.s l.long l.id l.initial.e l.initial.kept l.initial.map_room l.e l.at l.kept l.map_room

abbrev pub decreases-loop-part : goal.decreases-loop-part
decreases-loop-part l = length l.s - l.at
