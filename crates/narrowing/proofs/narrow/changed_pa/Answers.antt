use mathlib.Core.Path.{sym, ◌∙◌}
use Rattle.narrowing.proofs.PayloadLaws.{no_pa_stays, pa_stays}
use Rattle.narrowing.proofs.narrow.changed_pa.Goals as goal

pub returns-in_err-pa : goal.returns-in_err-pa
returns-in_err-pa c =
    let a = c.args in
    rw c.from_residual.ensures (no_pa_stays a.o a.pid a.payload.now c.in_err-pa.ensures)

pub slice_bounds-pa_change-count : goal.slice_bounds-pa_change-count
slice_bounds-pa_change-count c = c.in_ok-pa.ensures.nine

pub slice_bounds-pa_change-start : goal.slice_bounds-pa_change-start
slice_bounds-pa_change-start c = c.in_ok-pa.ensures.nine

pub slice_bounds-pa_change-end : goal.slice_bounds-pa_change-end
slice_bounds-pa_change-end c = c.in_ok-pa.ensures.within

pub pa_change-known-requires : goal.pa_change-known-requires
pa_change-known-requires c = c.in_ok-pa.ensures.heads.within

pub returns-then-changes : goal.returns-then-changes
returns-then-changes c =
    let m = c.pa_change-known.ensures in
    let q = sym c.changes.ensures ∙ c.if-changes.true in
    (c.in_ok-pa.ensures, sym m.changes_is ∙ q, m.known_is q)

pub returns : goal.returns
returns c =
    let a = c.args in
    pa_stays a.o a.pid a.payload.now _ _ c.in_ok-pa.ensures (sym c.pa_change-known.ensures.changes_is ∙ sym c.changes.ensures ∙ c.if-changes.false)
