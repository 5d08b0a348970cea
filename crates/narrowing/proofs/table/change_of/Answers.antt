use Rattle.narrowing.proofs.TableLaws.{body_mpt, body_other, body_elsewhere, body_plt}
use Rattle.narrowing.proofs.table.change_of.Goals as goal

pub returns-then-is_mpt : goal.returns-then-is_mpt
returns-then-is_mpt c =
    let a = c.args in
    rw (body_mpt a.o a.pid a.number a.b.now (rw c.is_mpt.ensures at c.if-is_mpt.true)) c.of_mpt.ensures

pub returns-then-number-ne128 : goal.returns-then-number-ne128
returns-then-number-ne128 c =
    let a = c.args in
    body_other a.o a.pid a.number a.b.now (rw c.is_mpt.ensures at c.if-is_mpt.false) c.if-number-ne128.true

pub returns-then-pid-ne0 : goal.returns-then-pid-ne0
returns-then-pid-ne0 c =
    let a = c.args in
    body_elsewhere a.o a.pid a.number a.b.now (rw c.is_mpt.ensures at c.if-is_mpt.false) c.if-number-ne128.false c.if-pid-ne0.true

pub returns : goal.returns
returns c =
    let a = c.args in
    rw (body_plt a.o a.pid a.number a.b.now (rw c.is_mpt.ensures at c.if-is_mpt.false) c.if-number-ne128.false c.if-pid-ne0.false)
    (c.of_plt.ensures a.o)
