use Prim.Native.Nat.{◌+◌, ◌-◌}
use mathlib.Core.Path.{◌≡◌}
use native.Mathlib.Omega.{arith}
use Rattle.narrowing.proofs.CountLaws.{start, room, turn, broken, all_counted}
use Rattle.narrowing.proofs.counting.count_entries.Goals as goal

pub loop-init : goal.loop-init
loop-init c =
    let a = c.args in
    let all_left : a.count - 0 ≡ a.count = omega arith in
    rw all_left (start a.b.now a.at a.count a.o a.counts c.requires.1 (omega arith) c.requires.2)

pub returns-in_default : goal.returns-in_default
returns-in_default c =
    let a = c.args in
    let l = c.loop in
    broken a.b.now a.at a.count a.o a.counts l.t l.from (a.count - l.counter) l.invariant (omega arith) (rw c.in_default.is at c.asset_at.ensures)

pub bump-u-requires : goal.bump-u-requires
bump-u-requires c =
    let a = c.args in
    let l = c.loop in
    (c.row_of.ensures.1, c.kind_of.ensures.1, room a.b.now a.at a.count a.o a.counts l.t l.from (a.count - l.counter) l.invariant _ _ (omega arith))

pub loop-preserved : goal.loop-preserved
loop-preserved c =
    let a = c.args in
    let l = c.loop in
    let one_less : a.count - (l.counter + 1) ≡ a.count - l.counter - 1 = omega arith in
    rw (c.bump-u.ensures, c.kind_of.ensures.0, c.row_of.ensures.0, one_less)
    (turn a.b.now a.at a.count a.o a.counts l.t l.from (a.count - l.counter) l.invariant _ (omega arith) (rw c.in-Some.is at c.asset_at.ensures))

pub returns : goal.returns
returns c =
    let a = c.args in
    let l = c.loop in
    all_counted a.b.now a.at a.count a.o a.counts l.t l.from (a.count - l.counter) l.invariant (omega arith)
