use Rattle.tables.proofs.MessageLaws.{part_cut, part_at}
use mathlib.Core.Path.{refl}
use native.Mathlib.Omega.{arith}
use Rattle.tables.proofs.messages.part_from.Goals as goal

pub returns-then-s-start : goal.returns-then-s-start
returns-then-s-start c o at h e = let a = c.args in part_cut o a.s.now at a.start a.n a.n refl e c.if-s-start.true

pub returns : goal.returns
returns c o at h e = let a = c.args in part_at o a.s.now at a.start a.n a.n refl e h (omega arith)
