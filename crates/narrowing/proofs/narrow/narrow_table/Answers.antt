use borrow.Enum.Refused.{opened}
use Prim.Native.Nat.{◌-◌}
use mathlib.Core.Path.{refl}
use lib.ListN.{length}
use native.Mathlib.Omega.{arith}
use borrow.Author.Tests.{not-true, not-false}
use Rattle.meaning.specs.Narrow.{change_table, narrow_refusal}
use Rattle.tables.proofs.WalkLaws.{no_table}
use Rattle.narrowing.proofs.ExactLaws.{part_exact}
use Rattle.narrowing.proofs.WalkLaws.{own_change}
use Rattle.narrowing.proofs.AnswerLaws.{not_refused, refused_answer, unchanged_answer, changed_answer, rows_low, part_short, no_table_stays, table_stays, table_changes_lem}
use Rattle.narrowing.proofs.narrow.narrow_table.Goals as goal

pub returns-in-Some : goal.returns-in-Some
returns-in-Some c =
    let a = c.args in
    refused_answer (narrow_refusal (length a.t.now) (length a.out.now)) (change_table a.o a.t.now) a.out.now _ _ _ c.in-Some.r
    (rw c.in-Some.is at c.refusal.ensures) c.without_counts.ensures

pub returns-in_default-table_at : goal.returns-in_default-table_at
returns-in_default-table_at c =
    let a = c.args in
    let f = not_refused (length a.t.now) (length a.out.now) (rw c.in_default.is at c.refusal.ensures) in
    let k = c.table_at in
    unchanged_answer (narrow_refusal (length a.t.now) (length a.out.now)) (change_table a.o a.t.now) a.out.now _ _ _ _ refl f.0
    (no_table_stays a.o a.t.now (no_table a.t.now 0 k.result (opened c.in_default-table_at.in_default-table_at-own.keys2) k.ensures)) c.without_counts-in_default-table_at.ensures

pub slice_bounds-change_of-count : goal.slice_bounds-change_of-count
slice_bounds-change_of-count c = let h = rw c.in-To.is at c.table_at.ensures in omega (arith, h.0)

pub slice_bounds-change_of-start : goal.slice_bounds-change_of-start
slice_bounds-change_of-start c = let h = rw c.in-To.is at c.table_at.ensures in omega (arith, h.0)

pub slice_bounds-change_of-end : goal.slice_bounds-change_of-end
slice_bounds-change_of-end c = let h = rw c.in-To.is at c.table_at.ensures in omega (arith, h.1)

pub bounds-t-0 : goal.bounds-t-0
bounds-t-0 c = let h = rw c.in-To.is at c.table_at.ensures in omega (arith, h.0, h.1)

pub returns-then-not-changes : goal.returns-then-not-changes
returns-then-not-changes c =
    let a = c.args in
    let f = not_refused (length a.t.now) (length a.out.now) (rw c.in_default.is at c.refusal.ensures) in
    let h = rw c.in-To.is at c.table_at.ensures in
    let k = c.change_of-change in
    let s = c.changes in
    unchanged_answer (narrow_refusal (length a.t.now) (length a.out.now)) (change_table a.o a.t.now) a.out.now _ _ _ _ refl f.0
    (table_stays a.o a.t.now _ h k.result k.ensures (rw s.ensures at (not-true s.result c.if-not-changes.true-raw))) c.without_counts-then-not-changes.ensures

pub slice_bounds-u-end : goal.slice_bounds-u-end
slice_bounds-u-end c = let h = rw c.in-To.is at c.table_at.ensures in omega (arith, h.1)

pub table_to-n-requires : goal.table_to-n-requires
table_to-n-requires c =
    let a = c.args in
    let f = not_refused (length a.t.now) (length a.out.now) (rw c.in_default.is at c.refusal.ensures) in
    let h = rw c.in-To.is at c.table_at.ensures in (
      part_exact a.t.now 0 _ h,
      (0, own_change a.t.now 0 _ h a.o 0 c.change_of-change.result c.change_of-change.ensures),
      omega (arith, part_short (c.in-To.end - 0) a.t.now, f.2),
    )

pub count_table-requires : goal.count_table-requires
count_table-requires c =
    let a = c.args in
    let h = rw c.in-To.is at c.table_at.ensures in
    (part_exact a.t.now 0 _ h, rows_low a.o)

pub returns : goal.returns
returns c =
    let a = c.args in
    let f = not_refused (length a.t.now) (length a.out.now) (rw c.in_default.is at c.refusal.ensures) in
    let h = rw c.in-To.is at c.table_at.ensures in
    let k = c.change_of-change in
    let s = c.changes in
    changed_answer (narrow_refusal (length a.t.now) (length a.out.now)) (change_table a.o a.t.now) a.out.now _ _ _ _ _ _ a.o _ _ f.0
    (table_changes_lem a.o a.t.now _ h k.result k.ensures (rw s.ensures at (not-false s.result c.if-not-changes.false-raw)))
    (c.table_to-n.ensures 0 (own_change a.t.now 0 _ h a.o 0 k.result k.ensures)) c.count_table.ensures c.answer_of.ensures
