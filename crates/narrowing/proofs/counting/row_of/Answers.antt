use native.Mathlib.Omega.{arith}
use Rattle.narrowing.proofs.counting.row_of.Goals as goal

pub returns-then-wanted : goal.returns-then-wanted
returns-then-wanted c = (rw (← c.wanted.ensures, c.if-wanted.true), omega arith)

pub returns-else-wanted : goal.returns-else-wanted
returns-else-wanted c = (rw (← c.wanted.ensures, c.if-wanted.false), omega arith)
