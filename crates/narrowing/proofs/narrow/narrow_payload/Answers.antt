use mathlib.Core.Path.{refl}
use Prim.Native.Nat.{◌-◌}
use lib.ListN.{length, drop, length-take, length-drop}
use native.Mathlib.Omega.{arith}
use Rattle.meaning.specs.Narrow.{change_payload, narrow_refusal}
use Rattle.narrowing.proofs.AnswerLaws.{not_refused, refused_answer, unchanged_answer, changed_answer, payload_stays, payload_changes}
use Rattle.narrowing.proofs.narrow.narrow_payload.Goals as goal

pub returns-in-Some : goal.returns-in-Some
returns-in-Some c =
    let a = c.args in
    refused_answer (narrow_refusal (length a.payload.now) (length a.out.now)) (change_payload a.o a.pid a.payload.now) a.out.now _ _ _ c.in-Some.r
    (rw c.in-Some.is at c.refusal.ensures) c.without_counts.ensures

pub returns-in_default-changed_pa : goal.returns-in_default-changed_pa
returns-in_default-changed_pa c =
    let a = c.args in
    let f = not_refused (length a.payload.now) (length a.out.now) (rw c.in_default.is at c.refusal.ensures) in
    unchanged_answer (narrow_refusal (length a.payload.now) (length a.out.now)) (change_payload a.o a.pid a.payload.now) a.out.now _ _ _ _ refl f.0
    (payload_stays a.o a.pid a.payload.now (rw c.in_default-changed_pa.is at c.changed_pa.ensures)) c.without_counts-in_default-changed_pa.ensures

pub payload_to-n-requires : goal.payload_to-n-requires
payload_to-n-requires c =
    let a = c.args in
    let f = not_refused (length a.payload.now) (length a.out.now) (rw c.in_default.is at c.refusal.ensures) in
    let h = rw c.in-Some-changed_pa.is at c.changed_pa.ensures in
    (h.0, h.2, omega (arith, h.0.within, f.2))

pub slice_bounds-count_tables-count : goal.slice_bounds-count_tables-count
slice_bounds-count_tables-count c = let h = rw c.in-Some-changed_pa.is at c.changed_pa.ensures in omega (arith, h.0.nine)

pub slice_bounds-count_tables-start : goal.slice_bounds-count_tables-start
slice_bounds-count_tables-start c = let h = rw c.in-Some-changed_pa.is at c.changed_pa.ensures in omega (arith, h.0.nine)

pub slice_bounds-count_tables-end : goal.slice_bounds-count_tables-end
slice_bounds-count_tables-end c = let h = rw c.in-Some-changed_pa.is at c.changed_pa.ensures in omega (arith, h.0.within)

pub count_tables-requires : goal.count_tables-requires
count_tables-requires c =
    let a = c.args in
    let f = not_refused (length a.payload.now) (length a.out.now) (rw c.in_default.is at c.refusal.ensures) in
    let h = rw c.in-Some-changed_pa.is at c.changed_pa.ensures in
    (h.0.heads.within, omega (arith, length-take (c.in-Some-changed_pa.changed.pa.end - 9) (drop 9 a.payload.now), length-drop 9 a.payload.now, f.1))

pub returns : goal.returns
returns c =
    let a = c.args in
    let f = not_refused (length a.payload.now) (length a.out.now) (rw c.in_default.is at c.refusal.ensures) in
    let h = rw c.in-Some-changed_pa.is at c.changed_pa.ensures in
    changed_answer (narrow_refusal (length a.payload.now) (length a.out.now)) (change_payload a.o a.pid a.payload.now) a.out.now _ _ _ _ _ _ a.o _ _ f.0
    (payload_changes a.o a.pid a.payload.now _ _ h.0 h.1) (c.payload_to-n.ensures h.0) c.count_tables.ensures c.answer_of.ensures
