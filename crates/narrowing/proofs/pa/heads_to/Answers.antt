use native.Mathlib.Omega.{arith}
use mathlib.Core.Path.{◌∙◌}
use mathlib.Core.Logic.{inl, inr}
use Rattle.narrowing.proofs.WalkLaws.{heads_begin, heads_left, heads_room, heads_two, heads_next, heads_rest}
use Rattle.tables.proofs.WalkLaws.{no_table}
use borrow.Enum.Refused.{opened}
use Rattle.narrowing.proofs.pa.heads_to.Goals.{else-loop-entry-test, then-loop-entry-test+in_default}
use Rattle.narrowing.proofs.pa.heads_to.Goals as goal

pub loop-entry-init : goal.loop-entry-init
loop-entry-init c =
    let a = c.args in
    let h = c.requires in
    heads_begin a.o a.pid a.s.now a.tables a.out.now a.to h.0.0 h.0.1 h.2

pub slice_bounds-b-count : goal.slice_bounds-b-count
slice_bounds-b-count c = let k = rw c.in-To.is at c.table_at.ensures in omega (arith, k.0, k.1)

pub slice_bounds-b-start : goal.slice_bounds-b-start
slice_bounds-b-start c = let k = rw c.in-To.is at c.table_at.ensures in omega (arith, k.0, k.1)

pub slice_bounds-b-end : goal.slice_bounds-b-end
slice_bounds-b-end c = let k = rw c.in-To.is at c.table_at.ensures in omega (arith, k.0, k.1)

pub change_at-requires : goal.change_at-requires
change_at-requires c = (rw c.in-To.is at c.table_at.ensures, c.requires.1)

pub length_after-n-requires : goal.length_after-n-requires
length_after-n-requires c = (_, c.args.o, c.change_at.ensures)

pub slice_bounds-copy-count : goal.slice_bounds-copy-count
slice_bounds-copy-count c = let l = c.loop-entry.invariant in omega (arith, l.fits, l.whole (omega arith))

pub slice_bounds-copy-start : goal.slice_bounds-copy-start
slice_bounds-copy-start c = let l = c.loop-entry.invariant in omega (arith, l.fits, l.whole (omega arith))

pub slice_bounds-copy-end : goal.slice_bounds-copy-end
slice_bounds-copy-end c = let l = c.loop-entry.invariant in omega (arith, l.fits, l.whole (omega arith))

pub copy-put2-requires : goal.copy-put2-requires
copy-put2-requires c =
    let a = c.args in
    let l = c.loop-entry in
    heads_room a.o a.pid a.s.now a.tables a.out.now a.to l.out l.at l.entry l.put l.invariant (omega arith)

pub put16-put-requires : goal.put16-put-requires
put16-put-requires c =
    let a = c.args in
    let l = c.loop-entry in
    let u = c.copy-put2 in
    heads_two a.o a.pid a.s.now a.tables a.out.now a.to l.out l.at l.entry l.put l.invariant (omega arith) u.ensures u.auto.out

pub loop-entry-preserved : goal.loop-entry-preserved
loop-entry-preserved c =
    let h = c.requires.0 in
    let a = c.args in
    let l = c.loop-entry in
    let k = rw c.in-To.is at c.table_at.ensures in
    let u = c.copy-put2 in
    let v = c.put16-put in
    heads_next a.o a.pid a.s.now a.tables a.out.now a.to l.out l.at l.entry l.put l.invariant h.0 h.1 _ _ k (omega arith)
    (c.length_after-n.ensures _ a.o c.change_at.ensures) _ _ _ _ u.ensures v.ensures (v.auto.out ∙ u.auto.out)

pub slice_bounds-copy-count-2 : goal.slice_bounds-copy-count-2
slice_bounds-copy-count-2 c = omega (arith, c.loop-entry.invariant.fits, c.loop-entry.invariant.inside)

pub slice_bounds-copy-start-2 : goal.slice_bounds-copy-start-2
slice_bounds-copy-start-2 c = omega (arith, c.loop-entry.invariant.fits, c.loop-entry.invariant.inside)

pub slice_bounds-copy-end-2 : goal.slice_bounds-copy-end-2
slice_bounds-copy-end-2 c = omega (arith, c.loop-entry.invariant.fits, c.loop-entry.invariant.inside)

pub copy-requires : goal.copy-requires
copy-requires c =
    let a = c.args in
    let l = c.loop-entry in
    heads_left a.o a.pid a.s.now a.tables a.out.now a.to l.out l.at l.entry l.put l.invariant

pub shape_of-out : goal.shape_of-out
shape_of-out c = omega (arith, c.loop-entry.invariant.same, c.copy.auto.out)

pub returns : goal.returns
returns c =
    let a = c.args in
    let l = c.loop-entry in
    heads_rest a.o a.pid a.s.now a.tables a.out.now a.to l.out l.at l.entry l.put l.invariant
    (elim c.loop-entry-test.branch [
      | else-loop-entry-test w ↦ inl w.loop-entry-test.false
      | then-loop-entry-test+in_default w ↦ inr (no_table a.s.now l.at w.table_at.result (opened w.in_default.in_default-own.keys2) w.table_at.ensures)
    ]) c.copy.ensures
