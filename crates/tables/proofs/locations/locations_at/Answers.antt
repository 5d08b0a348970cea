use Rattle.tables.proofs.LocationLaws.{start, turn, broken, all_read}
use Prim.Native.Nat.{◌+◌, ◌-◌}
use mathlib.Core.Path.{◌≡◌}
use native.Mathlib.Omega.{arith}
use Rattle.tables.proofs.locations.locations_at.Goals as goal

pub loop-init : goal.loop-init
loop-init c =
    let a = c.args in
    let all_left : a.count - 0 ≡ a.count = omega arith in
    rw all_left (start a.s.now a.at a.count c.requires)

pub returns-in_err-one : goal.returns-in_err-one
returns-in_err-one c =
    let a = c.args in
    let l = c.loop in
    rw c.from_residual.ensures (broken a.s.now a.at a.count l.end (a.count - l.counter) l.carrier l.invariant (omega arith) c.in_err-one.ensures)

pub loop-preserved : goal.loop-preserved
loop-preserved c =
    let a = c.args in
    let l = c.loop in
    let one_less : a.count - (l.counter + 1) ≡ a.count - l.counter - 1 = omega arith in
    rw (c.or-carrier.ensures, one_less)
    (turn a.s.now a.at a.count l.end (a.count - l.counter) l.carrier l.invariant _ (omega arith) c.in_ok-one.ensures)

pub returns : goal.returns
returns c =
    let a = c.args in
    let l = c.loop in
    all_read a.s.now a.at a.count l.end (a.count - l.counter) l.carrier l.invariant (omega arith)
