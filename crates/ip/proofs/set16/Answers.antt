use native.Mathlib.Omega.{arith}
use Rattle.ip.proofs.CodeLaws.{wrote_16}
use Rattle.ip.proofs.set16.Goals as goal

pub returns : goal.returns
returns c = wrote_16 _ _ _ _ _ (omega arith) c.put16.ensures
