use Rattle.tlv.proofs.GapLaws.{none_begin, none_next}
use native.Mathlib.Omega.{arith}
use Rattle.tlv.proofs.blocks_end.Goals as goal

pub loop-to-init : goal.loop-to-init
loop-to-init c = none_begin _ _ c.requires

pub loop-to-preserved : goal.loop-to-preserved
loop-to-preserved c = none_next c.args.run.now c.args.at c.loop-to.to (omega arith) c.if-idle.ensures c.loop-to.invariant

pub returns-else-idle : goal.returns-else-idle
returns-else-idle c = c.loop-to.invariant

pub returns-after-loop-to : goal.returns-after-loop-to
returns-after-loop-to c = c.loop-to.invariant
