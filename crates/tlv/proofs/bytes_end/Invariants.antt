use Rattle.tlv.specs.Gaps.{Gap}
use Rattle.tlv.proofs.bytes_end.Given as goal

abbrev pub invariant-loop-to : goal.invariant-loop-to
invariant-loop-to l = Gap l.most l.run l.at l.to
