use Rattle.recorder.proofs.SlotLaws.{clearing_begin, clearing_next, clearing_done}
use native.Mathlib.Omega.{arith}
use Rattle.recorder.proofs.slots.clear.Goals as goal

pub loop-i-init : goal.loop-i-init
loop-i-init g c = clearing_begin c.args.zero c.args.from c.args.xs.now (omega arith)

pub loop-i-preserved : goal.loop-i-preserved
loop-i-preserved g c = clearing_next c.loop-i.invariant (omega arith) (omega arith)

pub returns : goal.returns
returns g c = clearing_done c.loop-i.invariant (omega arith)
