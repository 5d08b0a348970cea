use Rattle.soundness.proofs.SoundnessLaws.{once_begin, once_next, once_twice, once_done}
use native.Mathlib.Omega.{arith}
use Rattle.soundness.proofs.many_distinct.Goals as goal

pub loop-head-init : goal.loop-head-init
loop-head-init g c = once_begin c.empty-set.ensures

pub returns-then-seen_before : goal.returns-then-seen_before
returns-then-seen_before g c = once_twice c.loop-head.invariant c.loop-head-test.true c.head-item.is c.identifier.ensures.0 c.seen_before.ensures.0 c.if-seen_before.true

pub loop-head-preserved : goal.loop-head-preserved
loop-head-preserved g c = once_next c.loop-head.invariant c.loop-head-test.true c.head-item.is c.identifier.ensures.0 c.seen_before.ensures.0 c.identifier.ensures.1 c.if-seen_before.false c.seen_before.ensures.1

pub returns : goal.returns
returns g c = once_done c.loop-head.invariant (omega (arith, c.loop-head-test.false))
