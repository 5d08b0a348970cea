use mathlib.Core.Path.{sym, ◌∙◌}
use Rattle.programs.proofs.StreamLaws.{by_refusal, asked_assets, by_stream, by_failure}
use Rattle.programs.proofs.stream.headed.Goals as goal

pub started-requires : goal.started-requires
started-requires c =
    let a = c.args in
    (asked_assets a.head.now c.requires.0 a.rooms.now (sym c.asked_of.ensures ∙ c.in-Ok.is), c.requires.1)

pub returns-in-Err : goal.returns-in-Err
returns-in-Err c =
    let a = c.args in
    rw c.unasked.ensures (by_refusal a.head.now c.requires.0 a.rooms.now (sym c.asked_of.ensures ∙ c.in-Err.is))

pub returns-in_err-x-in-Ok : goal.returns-in_err-x-in-Ok
returns-in_err-x-in-Ok c =
    let a = c.args in
    rw c.from_residual.ensures (by_failure a.head.now c.requires.0 a.rooms.now _ (sym c.asked_of.ensures ∙ c.in-Ok.is) c.in_err-x-in-Ok.ensures)

pub returns-in_ok-x-in-Ok : goal.returns-in_ok-x-in-Ok
returns-in_ok-x-in-Ok c =
    let a = c.args in
    rw c.ending.ensures (by_stream a.head.now c.requires.0 a.rooms.now _ (sym c.asked_of.ensures ∙ c.in-Ok.is) c.in_ok-x-in-Ok.ensures)
