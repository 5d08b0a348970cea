use borrow.Enum.Refused.{opened}
use native.Mathlib.Omega.{arith}
use Rattle.narrowing.proofs.WalkLaws.{own_change, tables_begin, tables_left, tables_room, tables_next, tables_done}
use Rattle.tables.proofs.WalkLaws.{no_table}
use Rattle.narrowing.proofs.ExactLaws.{part_exact}
use Rattle.narrowing.proofs.pa.tables_to.Goals as goal

pub loop-end-init : goal.loop-end-init
loop-end-init c =
    let a = c.args in
    let h = c.requires in
    tables_begin a.o a.pid a.s.now a.tables a.out.now a.to h.0 h.2

pub copy-requires : goal.copy-requires
copy-requires c =
    let a = c.args in
    let l = c.loop-end in
    tables_left a.o a.pid a.s.now a.tables a.out.now a.to l.out l.at l.put l.invariant

pub shape_of-out : goal.shape_of-out
shape_of-out c = omega (arith, c.loop-end.invariant.same, c.copy.auto.out)

pub returns : goal.returns
returns c =
    let a = c.args in
    let l = c.loop-end in
    let t = c.table_at in
    tables_done a.o a.pid a.s.now a.tables a.out.now a.to l.out l.at l.put l.invariant
    (no_table a.s.now l.at t.result (opened c.in_default.in_default-own.keys2) t.ensures) c.copy.ensures

pub change_at-change-requires : goal.change_at-change-requires
change_at-change-requires c = (rw c.in-To.is at c.table_at.ensures, c.requires.1)

pub slice_bounds-table_to-count : goal.slice_bounds-table_to-count
slice_bounds-table_to-count c = let k = rw c.in-To.is at c.table_at.ensures in omega (arith, k.0, k.1)

pub slice_bounds-table_to-start : goal.slice_bounds-table_to-start
slice_bounds-table_to-start c = let k = rw c.in-To.is at c.table_at.ensures in omega (arith, k.0, k.1)

pub slice_bounds-table_to-end : goal.slice_bounds-table_to-end
slice_bounds-table_to-end c = let k = rw c.in-To.is at c.table_at.ensures in omega (arith, k.0, k.1)

pub table_to-put-requires : goal.table_to-put-requires
table_to-put-requires c =
    let a = c.args in
    let l = c.loop-end in
    let k = rw c.in-To.is at c.table_at.ensures in (
      part_exact a.s.now l.at _ k,
      (a.pid, own_change a.s.now l.at _ k a.o a.pid c.change_at-change.result c.change_at-change.ensures),
      tables_room a.o a.pid a.s.now a.tables a.out.now a.to l.out l.at l.put l.invariant _ k,
    )

pub loop-end-smaller : goal.loop-end-smaller
loop-end-smaller c = let k = rw c.in-To.is at c.table_at.ensures in omega (arith, k.0, k.1)

pub loop-end-preserved : goal.loop-end-preserved
loop-end-preserved c =
    let a = c.args in
    let l = c.loop-end in
    let k = rw c.in-To.is at c.table_at.ensures in
    let w = c.table_to-put in
    tables_next a.o a.pid a.s.now a.tables a.out.now a.to l.out l.at l.put l.invariant _ k _ _
    (w.ensures a.pid (own_change a.s.now l.at _ k a.o a.pid c.change_at-change.result c.change_at-change.ensures)) w.auto.out
