use Rattle.tables.proofs.MessageLaws.{message_short, message_cut, message_at}
use native.Mathlib.Omega.{arith}
use Rattle.tables.proofs.messages.message_of.Goals as goal

pub returns-then-s-lt3 : goal.returns-then-s-lt3
returns-then-s-lt3 c = message_short c.args.s.now c.if-s-lt3.true

pub returns-in_err-body : goal.returns-in_err-body
returns-in_err-body c =
    let i = c.id16-number in
    let l = c.is_long in
    rw c.from_residual.ensures (message_cut c.args.s.now i.result l.result i.ensures l.ensures (omega arith) c.in_err-body.ensures)

pub returns : goal.returns
returns c =
    let i = c.id16-number in
    let l = c.is_long in
    message_at c.args.s.now i.result l.result i.ensures l.ensures (omega arith)
    _ c.in_ok-body.ensures
