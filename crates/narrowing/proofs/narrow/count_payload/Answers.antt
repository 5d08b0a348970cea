use native.Mathlib.Omega.{arith}
use Prim.Native.Nat.{◌-◌}
use lib.ListN.{drop, length-drop}
use lib.Seq.{length-take-le}
use Rattle.narrowing.proofs.FoundLaws.{none_counted, found_counted}
use Rattle.narrowing.proofs.narrow.count_payload.Goals as goal

pub returns-in_default : goal.returns-in_default
returns-in_default c =
    let a = c.args in
    none_counted a.o a.payload.now (rw c.in_default.is at c.pa_of.ensures)

pub slice_bounds-count_tables-count : goal.slice_bounds-count_tables-count
slice_bounds-count_tables-count c = (rw c.in-Some.is at c.pa_of.ensures).nine

pub slice_bounds-count_tables-start : goal.slice_bounds-count_tables-start
slice_bounds-count_tables-start c = (rw c.in-Some.is at c.pa_of.ensures).nine

pub slice_bounds-count_tables-end : goal.slice_bounds-count_tables-end
slice_bounds-count_tables-end c = (rw c.in-Some.is at c.pa_of.ensures).within

pub count_tables-requires : goal.count_tables-requires
count_tables-requires c =
    let s = c.args.payload.now in
    let k = rw c.in-Some.is at c.pa_of.ensures in
    let e = c.in-Some.pa.end in
    (k.heads.within, omega (arith, c.requires, k.nine, k.within, length-drop 9 s, length-take-le (e - 9) (drop 9 s) (omega (arith, k.nine, k.within, length-drop 9 s))))

pub returns : goal.returns
returns c =
    let a = c.args in
    rw c.count_tables.ensures (found_counted a.o a.payload.now _ _ (rw c.in-Some.is at c.pa_of.ensures))
