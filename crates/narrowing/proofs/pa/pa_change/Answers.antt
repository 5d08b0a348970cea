use native.Mathlib.Omega.{arith}
use borrow.Author.Tests.{not-true, not-false}
use Rattle.narrowing.proofs.WalkLaws.{sofar_start, sofar_new, sofar_kept, sofar_cut, sofar_done}
use Rattle.narrowing.proofs.pa.pa_change.Goals as goal

pub loop-end-init : goal.loop-end-init
loop-end-init c = let a = c.args in sofar_start a.o a.pid a.s.now a.tables c.requires

pub slice_bounds-change_of-count : goal.slice_bounds-change_of-count
slice_bounds-change_of-count c = let k = rw c.in-To.is at c.table_at.ensures in omega (arith, k.0, k.1)

pub slice_bounds-change_of-start : goal.slice_bounds-change_of-start
slice_bounds-change_of-start c = let k = rw c.in-To.is at c.table_at.ensures in omega (arith, k.0, k.1)

pub slice_bounds-change_of-end : goal.slice_bounds-change_of-end
slice_bounds-change_of-end c = let k = rw c.in-To.is at c.table_at.ensures in omega (arith, k.0, k.1)

pub bounds-s-from : goal.bounds-s-from
bounds-s-from c = let k = rw c.in-To.is at c.table_at.ensures in omega (arith, k.0, k.1)

pub loop-end-smaller-then-not-changes : goal.loop-end-smaller-then-not-changes
loop-end-smaller-then-not-changes c = let k = rw c.in-To.is at c.table_at.ensures in omega (arith, k.0, k.1)

pub loop-end-preserved-then-not-changes : goal.loop-end-preserved-then-not-changes
loop-end-preserved-then-not-changes c =
    let a = c.args in
    let l = c.loop-end in
    let k = rw c.in-To.is at c.table_at.ensures in
    sofar_new a.o a.pid a.s.now a.tables l.at l.known.at l.known.change l.invariant _ k c.change_of-change.result (rw c.changes.ensures at (not-true c.changes.result c.if-not-changes.true-raw)) c.change_of-change.ensures

pub loop-end-smaller : goal.loop-end-smaller
loop-end-smaller c = let k = rw c.in-To.is at c.table_at.ensures in omega (arith, k.0, k.1)

pub loop-end-preserved : goal.loop-end-preserved
loop-end-preserved c =
    let a = c.args in
    let l = c.loop-end in
    let k = rw c.in-To.is at c.table_at.ensures in
    sofar_kept a.o a.pid a.s.now a.tables l.at l.known.at l.known.change l.invariant _ k (rw c.changes.ensures at (not-false c.changes.result c.if-not-changes.false-raw))

pub returns-in-Cut : goal.returns-in-Cut
returns-in-Cut c =
    let a = c.args in
    let l = c.loop-end in
    let k = rw c.in-Cut.is at c.table_at.ensures in
    sofar_cut a.o a.pid a.s.now a.tables l.at l.known.at l.known.change l.invariant k.0 k.1

pub returns-in-Done : goal.returns-in-Done
returns-in-Done c =
    let a = c.args in
    let l = c.loop-end in
    let k = rw c.in-Done.is at c.table_at.ensures in
    sofar_done a.o a.pid a.s.now a.tables l.at l.known.at l.known.change l.invariant k.0 k.1
