use Rattle.tables.proofs.PaLaws.{pa_empty, pa_cut, pa_at}
use native.Mathlib.Omega.{arith}
use Rattle.tables.proofs.pa.pa_tables.Goals as goal

pub returns-then-s-eq0 : goal.returns-then-s-eq0
returns-then-s-eq0 c = pa_empty c.args.s.now c.if-s-eq0.true

pub returns-then-s-n : goal.returns-then-s-n
returns-then-s-n c =
    let w = c.wide in
    pa_cut c.args.s.now w.result w.ensures.0 w.ensures.1 (omega arith) c.if-s-n.true

pub returns : goal.returns
returns c =
    let w = c.wide in
    pa_at c.args.s.now w.result w.ensures.0 w.ensures.1 (omega arith) c.if-s-n.false
