use Rattle.passing.proofs.RunLaws.{machine, Going}
use lib.ListN.{length}
use Prim.Native.Nat.{◌-◌}
use Rattle.passing.proofs.packets.Given as goal

abbrev pub invariant-loop-next : goal.invariant-loop-next
invariant-loop-next l = Going l.run l.t (machine l.initial.s l.initial.kept l.initial.map_room l.initial.bodies l.initial.set.words l.initial.out) (machine l.s l.kept l.map_room l.bodies l.set.words l.out) l.at

abbrev pub decreases-loop-next : goal.decreases-loop-next
decreases-loop-next l = length l.run - l.at
