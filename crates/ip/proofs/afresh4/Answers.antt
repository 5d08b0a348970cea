use native.Mathlib.Omega.{arith}
use Rattle.ip.proofs.CodeLaws.{steps_4}
use Rattle.ip.proofs.afresh4.Goals as goal

pub returns : goal.returns
returns c = steps_4 _ _ _ _ _ c.header_length-h.ensures.0 c.header_afresh.ensures (omega arith) (omega arith) (omega arith) c.pseudo-p.ensures.0 c.udp_or_none.ensures
