use native.Mathlib.Omega.{arith}
use Rattle.tlv.proofs.Laws.{size_is}
use Rattle.tlv.proofs.size_at.Goals as goal

pub returns : goal.returns
returns c = let a = c.args in rw (size_is a.run.now a.at) (omega arith, omega arith)
