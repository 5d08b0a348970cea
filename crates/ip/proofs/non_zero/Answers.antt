use Rattle.meaning.specs.Checksums.{non_zero}
use Rattle.ip.proofs.CodeLaws.{non_zero_lem}
use mathlib.Core.Path.{sym, ap}
use Rattle.ip.proofs.non_zero.Goals as goal

pub returns-then-n-eq0 : goal.returns-then-n-eq0
unfolding non_zero
returns-then-n-eq0 c = sym (ap non_zero c.if-n-eq0.true)

pub returns : goal.returns
returns c = sym (non_zero_lem _ c.if-n-eq0.false)
