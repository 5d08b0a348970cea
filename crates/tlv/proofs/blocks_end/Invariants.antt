use Rattle.tlv.specs.Gaps.{NoStart}
use lib.ListN.{length}
use Prim.Native.Nat.{◌-◌}
use Rattle.tlv.proofs.blocks_end.Given as goal

abbrev pub invariant-loop-to : goal.invariant-loop-to
invariant-loop-to l = NoStart l.run l.at l.to

abbrev pub decreases-loop-to : goal.decreases-loop-to
decreases-loop-to l = length l.run - l.to
