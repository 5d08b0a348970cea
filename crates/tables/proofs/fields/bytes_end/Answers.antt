use Rattle.meaning.proofs.Reading.{bytes_at, bytes_none}
use native.Mathlib.Omega.{arith}
use mathlib.Core.Path.{refl}
use Rattle.tables.proofs.fields.bytes_end.Goals as goal

pub returns-then-s-at : goal.returns-then-s-at
returns-then-s-at c = let a = c.args in bytes_none a.s.now a.at a.n c.if-s-at.true

pub returns : goal.returns
returns c = let a = c.args in (omega arith, (_, bytes_at a.s.now a.at a.n _ (omega arith) refl))
