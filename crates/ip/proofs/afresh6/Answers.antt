use native.Mathlib.Omega.{arith}
use Rattle.ip.proofs.CodeLaws.{steps_6}
use Rattle.ip.proofs.afresh6.Goals as goal

pub returns : goal.returns
returns c = steps_6 _ _ _ _ c.set16.ensures (omega arith) (omega arith) c.pseudo-p.ensures.0 c.udp_or_none.ensures
