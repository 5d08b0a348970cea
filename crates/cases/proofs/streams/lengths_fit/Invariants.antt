use Rattle.cases.specs.Streams.{LengthsFit}
use Rattle.cases.proofs.streams.lengths_fit.Given as goal

abbrev pub invariant-loop-i : goal.invariant-loop-i
invariant-loop-i l = LengthsFit l.lengths l.i l.most
