use Prim.Native.Nat.{◌+◌, ◌-◌}
use mathlib.Core.Path.{◌≡◌, sym, ◌∙◌}
use native.Mathlib.Omega.{arith}
use Rattle.narrowing.proofs.MptLaws.{walk_start, walk_kept, walk_gone, walk_end, cut}
use Rattle.narrowing.proofs.mpt.entries.Goals.{then-wanted, else-wanted}
use Rattle.narrowing.proofs.mpt.entries.Goals as goal

pub loop-init : goal.loop-init
loop-init c =
    let a = c.args in
    let all_left : a.count - 0 ≡ a.count = omega arith in
    rw all_left (walk_start a.o a.b.now a.at a.count c.requires.0)

pub returns-in_err-asset : goal.returns-in_err-asset
returns-in_err-asset c =
    let a = c.args in
    let l = c.loop in
    rw c.from_residual.ensures (cut a.b.now a.at a.count l.end (a.count - l.counter) l.invariant.pre l.invariant.sofar (omega arith) c.in_err-asset.ensures)

pub overflow_add-kept : goal.overflow_add-kept
overflow_add-kept c = omega (arith, c.loop.invariant.few, c.requires.1)

pub overflow_sub-size : goal.overflow_sub-size
overflow_sub-size c = omega (arith, c.in_ok-asset.ensures.1)

pub overflow_add-size : goal.overflow_add-size
overflow_add-size c =
    let k = c.in_ok-asset.ensures in
    omega (arith, k.0, k.1, c.loop.invariant.fits)

pub loop-preserved : goal.loop-preserved
loop-preserved c =
    let a = c.args in
    let l = c.loop in
    let left = a.count - l.counter in
    let one_less : a.count - (l.counter + 1) ≡ left - 1 = omega arith in
    let k = c.in_ok-asset.ensures in
    rw one_less
    (elim c.if-wanted.branch [
      | then-wanted w ↦ rw (w.kept-is, w.size-is) (walk_kept a.o a.b.now a.at a.count l.end left l.kept l.size l.invariant _ (omega arith) k (sym c.wanted.ensures ∙ w.if-wanted.true))
      | else-wanted w ↦ rw (w.kept-is, w.size-is) (walk_gone a.o a.b.now a.at a.count l.end left l.kept l.size l.invariant _ (omega arith) k (sym c.wanted.ensures ∙ w.if-wanted.false))
    ])

pub returns : goal.returns
returns c =
    let a = c.args in
    let l = c.loop in
    walk_end a.o a.b.now a.at a.count l.end (a.count - l.counter) l.kept l.size l.invariant (omega arith)
