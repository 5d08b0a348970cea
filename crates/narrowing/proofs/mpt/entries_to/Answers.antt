use Prim.Native.Nat.{◌+◌, ◌-◌}
use mathlib.Core.Path.{◌≡◌, sym, ◌∙◌}
use native.Mathlib.Omega.{arith}
use Rattle.narrowing.proofs.MptLaws.{write_start, write_cut, write_room, write_kept, write_gone, write_end}
use Rattle.narrowing.proofs.mpt.entries_to.Goals.{then-not-wanted, else-not-wanted}
use Rattle.narrowing.proofs.mpt.entries_to.Goals as goal

pub loop-init : goal.loop-init
loop-init c =
    let a = c.args in
    let all_left : a.count - 0 ≡ a.count = omega arith in
    rw all_left (write_start a.o a.b.now a.at a.count a.out.now a.to c.requires.0)

pub shape_of-out-in_default : goal.shape_of-out-in_default
shape_of-out-in_default c = c.loop.invariant.same

pub returns-in_default : goal.returns-in_default
returns-in_default c =
    let a = c.args in
    let l = c.loop in
    absurd (write_cut a.o a.b.now a.at a.count a.out.now a.to l.out l.from (a.count - l.counter) l.put l.row l.invariant (omega arith) (rw c.in_default.is at c.asset_at.ensures) c.requires.1)

pub slice_bounds-copy-count : goal.slice_bounds-copy-count
slice_bounds-copy-count c = omega (arith, c.loop.invariant.forth)

pub slice_bounds-copy-start : goal.slice_bounds-copy-start
slice_bounds-copy-start c = let g = c.loop.invariant in omega (arith, g.forth, g.sofar.within)

pub slice_bounds-copy-end : goal.slice_bounds-copy-end
slice_bounds-copy-end c = omega (arith, c.loop.invariant.sofar.within)

pub copy-put-requires : goal.copy-put-requires
copy-put-requires c =
    let a = c.args in
    let l = c.loop in
    write_room a.o a.b.now a.at a.count a.out.now a.to l.out l.from (a.count - l.counter) l.put l.row l.invariant c.requires.1 c.requires.2

pub loop-preserved : goal.loop-preserved
loop-preserved c =
    let a = c.args in
    let l = c.loop in
    let left = a.count - l.counter in
    let one_less : a.count - (l.counter + 1) ≡ left - 1 = omega arith in
    let k = rw c.in-Some.is at c.asset_at.ensures in
    rw one_less
    (elim c.if-not-wanted.branch [
      | then-not-wanted w ↦ rw (w.out-is, w.put-is, w.row-is) (write_gone a.o a.b.now a.at a.count a.out.now a.to l.out l.from left l.put l.row l.invariant _ (omega arith) k (sym c.wanted.ensures ∙ w.if-not-wanted.true) _ _ w.copy-put.ensures w.copy-put.auto.out)
      | else-not-wanted w ↦ rw (w.out-is, w.put-is, w.row-is) (write_kept a.o a.b.now a.at a.count a.out.now a.to l.out l.from left l.put l.row l.invariant _ (omega arith) k (sym c.wanted.ensures ∙ w.if-not-wanted.false))
    ])

pub slice_bounds-copy-count-2 : goal.slice_bounds-copy-count-2
slice_bounds-copy-count-2 c = omega (arith, c.loop.invariant.forth)

pub slice_bounds-copy-start-2 : goal.slice_bounds-copy-start-2
slice_bounds-copy-start-2 c = let g = c.loop.invariant in omega (arith, g.forth, g.sofar.within)

pub slice_bounds-copy-end-2 : goal.slice_bounds-copy-end-2
slice_bounds-copy-end-2 c = omega (arith, c.loop.invariant.sofar.within)

pub copy-requires : goal.copy-requires
copy-requires c =
    let a = c.args in
    let l = c.loop in
    write_room a.o a.b.now a.at a.count a.out.now a.to l.out l.from (a.count - l.counter) l.put l.row l.invariant c.requires.1 c.requires.2

pub shape_of-out : goal.shape_of-out
shape_of-out c = c.copy.auto.out ∙ c.loop.invariant.same

pub returns : goal.returns
returns c =
    let a = c.args in
    let l = c.loop in
    write_end a.o a.b.now a.at a.count a.out.now a.to l.out l.from (a.count - l.counter) l.put l.row l.invariant (omega arith) _ _ c.copy.ensures
