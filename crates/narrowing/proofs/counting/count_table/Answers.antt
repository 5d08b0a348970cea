use native.Mathlib.Omega.{arith}
use Rattle.narrowing.proofs.CountLaws.{below_more, other_table, headless, uncounted, unread, of_entries}
use Rattle.narrowing.proofs.counting.count_table.Goals as goal

pub returns-then-not-is_mpt : goal.returns-then-not-is_mpt
returns-then-not-is_mpt c =
    let a = c.args in
    let m = c.is_mpt in
    other_table a.t.now c.requires.0 a.o a.counts m.result m.ensures c.if-not-is_mpt.true-raw

pub returns-in_default : goal.returns-in_default
returns-in_default c =
    let a = c.args in
    let m = c.is_mpt in
    headless a.t.now c.requires.0 a.o a.counts m.result m.ensures c.if-not-is_mpt.false-raw
    (rw c.in_default.is at c.mpt_front.ensures)

pub returns-then-b-front : goal.returns-then-b-front
returns-then-b-front c =
    let a = c.args in
    let m = c.is_mpt in
    uncounted a.t.now c.requires.0 a.o a.counts m.result m.ensures c.if-not-is_mpt.false-raw _
    (rw c.in-Some.is at c.mpt_front.ensures) c.if-b-front.true

pub returns-in_default-entries : goal.returns-in_default-entries
returns-in_default-entries c =
    let a = c.args in
    let m = c.is_mpt in
    let w = c.wide-n in
    unread a.t.now c.requires.0 a.o a.counts m.result m.ensures c.if-not-is_mpt.false-raw _
    (rw c.in-Some.is at c.mpt_front.ensures) w.result c.if-b-front.false w.ensures.0 w.ensures.1
    (rw c.in_default-entries.is at c.entries.ensures)

pub count_entries-requires : goal.count_entries-requires
count_entries-requires c =
    let w = c.wide-n in
    let e = rw c.in-Some-entries.is at c.entries.ensures in
    (omega arith, rw e.3.1 tt, below_more c.args.counts _ _ c.requires.1 (omega (arith, w.ensures.1)))

pub returns : goal.returns
returns c =
    let a = c.args in
    let m = c.is_mpt in
    let w = c.wide-n in
    rw c.count_entries.ensures
    (of_entries a.t.now c.requires.0 a.o a.counts m.result m.ensures c.if-not-is_mpt.false-raw _
    (rw c.in-Some.is at c.mpt_front.ensures) w.result c.if-b-front.false w.ensures.0 w.ensures.1)
