use Rattle.soundness.proofs.SoundnessLaws.{Once}
use Rattle.soundness.proofs.many_distinct.Given as goal

abbrev pub invariant-loop-head : goal.invariant-loop-head
invariant-loop-head g l = Once g.H.Head.id_in l.heads l.set.words l.head-index
