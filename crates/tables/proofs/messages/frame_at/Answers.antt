use Rattle.tables.proofs.MessageLaws.{frame_none, width_some, frame_reads}
use native.Mathlib.Omega.{arith}
use Rattle.tables.proofs.messages.frame_at.Goals as goal

pub returns-then-len-n : goal.returns-then-len-n
returns-then-len-n c = frame_none c.args.s.now c.args.at c.args.long (omega arith)

pub returns-then-len-n-2 : goal.returns-then-len-n-2
returns-then-len-n-2 c = frame_none c.args.s.now c.args.at c.args.long (omega arith)

pub returns : goal.returns
returns c =
    let a = c.args in
    let w = c.width-n in
    c.part_from.ensures _ a.at (omega (arith, width_some a.long, w.ensures)) (rw (w.ensures, c.length_at.ensures) (frame_reads a.s.now a.at a.long (omega arith)))
