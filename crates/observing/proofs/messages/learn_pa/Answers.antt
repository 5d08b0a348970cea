use native.Mathlib.Omega.{arith}
use Rattle.observing.proofs.TableSteps.{no_table, tables_begin, tables_next, tables_done, no_tables, pa_none, pa_found}
use Rattle.observing.proofs.messages.learn_pa.Goals as goal

pub returns-in_default : goal.returns-in_default
returns-in_default c =
    let a = c.args in
    let none_there = rw c.in_default.is at c.pa_tables.ensures in
    ((λ k h. rw (pa_none a.s.now none_there) (no_tables a.id k a.known _ _ h)), omega arith)

pub loop-end-init : goal.loop-end-init
loop-end-init c =
    let a = c.args in
    let pre = c.requires in
    let x = rw c.in-Some.is at c.pa_tables.ensures in
    tables_begin a.s.now a.id _ a.known a.kept.now a.map_room.now x.1 pre.1

pub loop-end-preserved : goal.loop-end-preserved
loop-end-preserved c =
    let a = c.args in
    let l = c.loop-end in
    let k = rw c.in-To.is at c.table_at.ensures in
    tables_next a.s.now a.id _ a.known a.kept.now a.map_room.now l.e l.at l.kept l.map_room l.invariant _ k
    _ _ _ c.learn_table-e.auto.map_room c.learn_table-e.ensures

pub returns : goal.returns
returns c =
    let a = c.args in
    let l = c.loop-end in
    let x = rw c.in-Some.is at c.pa_tables.ensures in
    let stop = no_table a.s.now l.at c.table_at.result c.in_default-table_at.not-To c.table_at.ensures in (
      (λ k h. rw (pa_found a.s.now _ x)
          (tables_done a.s.now a.id _ a.known a.kept.now a.map_room.now l.e l.at l.kept l.map_room l.invariant stop k h)),
      omega (arith, l.invariant.countable),
    )
