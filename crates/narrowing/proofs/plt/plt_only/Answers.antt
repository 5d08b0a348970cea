use Prim.Native.Nat.{◌+◌, ◌-◌}
use mathlib.Core.Path.{◌≡◌, sym, ◌∙◌}
use lib.ListN.{get_or}
use native.Mathlib.Omega.{arith}
use Rattle.narrowing.proofs.PltLaws.{plt_none, start, broken, turn, turn_other, none_of, one_of}
use Rattle.narrowing.proofs.plt.plt_only.Goals.{then-eq, else-eq}
use Rattle.narrowing.proofs.plt.plt_only.Goals as goal

pub returns-then-b-eq0 : goal.returns-then-b-eq0
returns-then-b-eq0 c = let a = c.args in plt_none a.service a.b.now c.if-b-eq0.true

pub loop-init : goal.loop-init
loop-init c =
    let a = c.args in
    let n = c.wide-end in
    let all_left : get_or a.b.now 0 0 - 0 ≡ n.result = omega (arith, n.ensures.0) in
    rw all_left (start a.service a.b.now n.result (omega arith) n.ensures.0 n.ensures.1)

pub returns-in_err-package : goal.returns-in_err-package
returns-in_err-package c =
    let a = c.args in
    let l = c.loop in
    rw c.from_residual.ensures
    (broken a.service a.b.now (get_or a.b.now 0 0 - l.counter) l.past l.stays l.invariant (omega (arith, c.wide-end.ensures.0)) c.in_err-package.ensures)

pub loop-preserved : goal.loop-preserved
loop-preserved c =
    let a = c.args in
    let l = c.loop in
    let left = get_or a.b.now 0 0 - l.counter in
    let one_less : get_or a.b.now 0 0 - (l.counter + 1) ≡ left - 1 = omega arith in
    let k = c.in_ok-package.ensures in
    rw one_less
    (elim c.if-eq.branch [
      | then-eq w ↦ rw w.stays-is (turn a.service a.b.now left l.past l.stays l.invariant _ (omega (arith, c.wide-end.ensures.0)) k (sym c.eq.ensures ∙ w.if-eq.true))
      | else-eq w ↦ rw w.stays-is (turn_other a.service a.b.now left l.past l.stays l.invariant _ (omega (arith, c.wide-end.ensures.0)) k (sym c.eq.ensures ∙ w.if-eq.false))
    ])

pub returns-in_err-start : goal.returns-in_err-start
returns-in_err-start c =
    let a = c.args in
    let l = c.loop in
    rw c.from_residual-in_err-start.ensures
    (none_of a.service a.b.now (get_or a.b.now 0 0 - l.counter) l.past l.stays l.invariant (omega (arith, c.wide-end.ensures.0)) c.in_err-start.was)

pub returns : goal.returns
returns c =
    let a = c.args in
    let l = c.loop in
    one_of a.service a.b.now (get_or a.b.now 0 0 - l.counter) l.past l.stays l.invariant (omega (arith, c.wide-end.ensures.0)) _ _ c.in_ok-start.was
