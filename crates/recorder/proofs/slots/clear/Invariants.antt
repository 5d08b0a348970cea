use Rattle.recorder.proofs.SlotLaws.{Clearing}
use Rattle.recorder.proofs.slots.clear.Given as goal

abbrev pub invariant-loop-i : goal.invariant-loop-i
invariant-loop-i g l = Clearing l.zero l.from l.initial.xs l.xs l.i
