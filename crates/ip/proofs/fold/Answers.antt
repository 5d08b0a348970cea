use mathlib.Core.Path.{refl}
use native.Mathlib.Omega.{arith}
use Rattle.meaning.proofs.ChecksumLaws.{fold_twice}
use Rattle.ip.proofs.fold.Goals as goal

pub returns : goal.returns
returns c = (fold_twice c.args.n _ (omega arith) refl, omega arith)
