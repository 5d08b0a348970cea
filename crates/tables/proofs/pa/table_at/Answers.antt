use Rattle.tables.proofs.PaLaws.{table_done, table_cut, table_to}
use native.Mathlib.Omega.{arith}
use Rattle.tables.proofs.pa.table_at.Goals as goal

pub returns-then-len-lt4 : goal.returns-then-len-lt4
returns-then-len-lt4 c = table_done c.args.s.now c.args.at (omega arith)

pub returns-then-len-at : goal.returns-then-len-at
returns-then-len-at c = table_done c.args.s.now c.args.at (omega arith)

pub returns-then-len-at-2 : goal.returns-then-len-at-2
returns-then-len-at-2 c =
    let a = c.args in
    table_cut a.s.now a.at c.be16-n.result c.be16-n.ensures.0 (omega arith) c.if-len-at-2.true

pub returns : goal.returns
returns c =
    let a = c.args in
    table_to a.s.now a.at c.be16-n.result c.be16-n.ensures.0 (omega arith) c.if-len-at-2.false
