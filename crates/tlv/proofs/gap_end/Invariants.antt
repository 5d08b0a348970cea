use Rattle.tlv.specs.Gaps.{Gap}
use lib.ListN.{length}
use Prim.Native.Nat.{◌-◌}
use Rattle.tlv.proofs.gap_end.Given as goal

abbrev pub invariant-loop-to : goal.invariant-loop-to
invariant-loop-to l = Gap l.most l.run l.at l.to

abbrev pub decreases-loop-to : goal.decreases-loop-to
decreases-loop-to l = length l.run - l.to
