use Rattle.recorder.proofs.PushLaws.{told_refused, told_done}
use Rattle.programs.proofs.LineLaws.{last_failed, last_refused, last_written, last_sums}
use Rattle.meaning.proofs.Writes.{wrote_none}
use mathlib.Core.Path.{sym, ◌∙◌}
use Rattle.programs.proofs.lines.put_last.Goals as goal

pub returns-then-is_err : goal.returns-then-is_err
returns-then-is_err c =
    let a = c.args in
    let refused = told_refused _ (sym c.is_err.ensures.value ∙ c.if-is_err.true) in
    rw (c.in-Some.is, last_refused c.in-Some.e a.writes refused, ← c.answer_number.ensures) c.put_refused.ensures

pub returns-in-Stream : goal.returns-in-Stream
returns-in-Stream c =
    let a = c.args in
    let done = told_done _ (sym c.is_err.ensures.value ∙ c.if-is_err.false) in
    rw (c.in-Some.is, last_written c.in-Some.e a.writes done c.in-Stream.is) (wrote_none a.out.now 0)

pub returns-in-Sums : goal.returns-in-Sums
returns-in-Sums c =
    let a = c.args in
    let done = told_done _ (sym c.is_err.ensures.value ∙ c.if-is_err.false) in
    rw (c.in-Some.is, last_sums c.in-Some.e a.writes done c.in-Sums.is) c.put_sums.ensures

pub returns-in_default : goal.returns-in_default
returns-in_default c =
    let a = c.args in
    rw (c.in_default.is, last_failed a.writes) (wrote_none a.out.now 0)
