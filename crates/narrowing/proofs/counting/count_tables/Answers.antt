use borrow.Enum.Refused.{opened}
use native.Mathlib.Omega.{arith}
use Rattle.narrowing.proofs.CountLaws.{tally_start, tally_room, tally_turn, tallied}
use Rattle.tables.proofs.WalkLaws.{no_table}
use Rattle.narrowing.proofs.ExactLaws.{part_exact}
use Rattle.narrowing.proofs.counting.count_tables.Goals as goal

pub loop-end-init : goal.loop-end-init
loop-end-init c = let a = c.args in tally_start a.s.now a.tables a.o c.requires.0

pub returns : goal.returns
returns c =
    let a = c.args in
    let l = c.loop-end in
    tallied a.s.now a.tables a.o l.t l.at l.invariant
    (no_table a.s.now l.at c.table_at.result (opened c.in_default.in_default-own.keys2) c.table_at.ensures)

pub slice_bounds-count_table-count : goal.slice_bounds-count_table-count
slice_bounds-count_table-count c = let h = rw c.in-To.is at c.table_at.ensures in omega (arith, h.0)

pub slice_bounds-count_table-start : goal.slice_bounds-count_table-start
slice_bounds-count_table-start c = let h = rw c.in-To.is at c.table_at.ensures in omega (arith, h.0)

pub slice_bounds-count_table-end : goal.slice_bounds-count_table-end
slice_bounds-count_table-end c = let h = rw c.in-To.is at c.table_at.ensures in omega (arith, h.1)

pub count_table-u-requires : goal.count_table-u-requires
count_table-u-requires c =
    let a = c.args in
    let l = c.loop-end in
    let h = rw c.in-To.is at c.table_at.ensures in
    (part_exact a.s.now l.at _ h, tally_room a.s.now a.tables a.o l.t l.at l.invariant c.requires.1)

pub loop-end-smaller : goal.loop-end-smaller
loop-end-smaller c = let h = rw c.in-To.is at c.table_at.ensures in omega (arith, h.0, h.1)

pub loop-end-preserved : goal.loop-end-preserved
loop-end-preserved c =
    let a = c.args in
    let l = c.loop-end in
    let h = rw c.in-To.is at c.table_at.ensures in
    tally_turn a.s.now a.tables a.o l.t l.at l.invariant _ _ h c.count_table-u.ensures
