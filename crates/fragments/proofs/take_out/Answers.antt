use native.Mathlib.Omega.{arith}
use Rattle.fragments.proofs.RoomLaws.{taken_out, none_out}
use Rattle.fragments.proofs.take_out.Goals as goal

pub returns-then-index-n-clause-out : goal.returns-then-index-n-clause-out
returns-then-index-n-clause-out c = taken_out c.args.index c.args.n c.args.fragment_heads.now _ (omega arith) (omega arith) c.close_slot.ensures

pub returns-clause-out : goal.returns-clause-out
returns-clause-out c = none_out c.args.index c.args.n c.args.fragment_heads.now (omega arith)
