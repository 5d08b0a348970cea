use Rattle.narrowing.proofs.MptLaws.{front_none, count_none, entries_none, all_stay, some_go}
use Rattle.narrowing.proofs.mpt.mpt_without.Goals as goal

pub returns-in_err-front : goal.returns-in_err-front
returns-in_err-front c = rw c.from_residual.ensures (front_none c.args.o c.args.b.now c.in_err-front.ensures)

pub returns-then-b-front : goal.returns-then-b-front
returns-then-b-front c = count_none c.args.o c.args.b.now _ c.in_ok-front.ensures c.if-b-front.true

pub returns-in_err-walk : goal.returns-in_err-walk
returns-in_err-walk c =
    let a = c.args in
    let n = c.wide-count in
    rw c.from_residual-in_err-walk.ensures
    (entries_none a.o a.b.now _ c.in_ok-front.ensures c.if-b-front.false _ n.ensures.0 n.ensures.1 c.in_err-walk.ensures)

pub returns-then-walk-count : goal.returns-then-walk-count
returns-then-walk-count c =
    let a = c.args in
    let n = c.wide-count in
    all_stay a.o a.b.now _ c.in_ok-front.ensures c.if-b-front.false _ n.ensures.0 n.ensures.1 _ c.in_ok-walk.ensures c.if-walk-count.true

pub returns : goal.returns
returns c =
    let a = c.args in
    let n = c.wide-count in
    some_go a.o a.b.now _ c.in_ok-front.ensures c.if-b-front.false _ n.ensures.0 n.ensures.1 _ c.in_ok-walk.ensures c.if-walk-count.false
