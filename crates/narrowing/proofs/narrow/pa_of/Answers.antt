use Prim.Native.Nat.{◌≤◌}
use mathlib.Core.Path.{◌≡◌, sym, ◌∙◌}
use mathlib.Core.Bool.{Bool, false, not}
use lib.ListN.{length}
use native.Mathlib.Omega.{arith}
use borrow.Author.Tests.{not-true, not-false}
use Rattle.meaning.specs.Bytes.{Bytes}
use Rattle.narrowing.specs.Answers.{starts_pa}
use Rattle.narrowing.proofs.PayloadLaws.{started, no_start}
use Rattle.narrowing.proofs.FoundLaws.{no_message, pa_ends, headless_pa, pa_found}
use Rattle.narrowing.proofs.narrow.pa_of.Goals as goal

-- flags and counter are there
two_long : (s : Bytes) {r : Bool} → r ≡ starts_pa s → not r ≡ false → 2 ≤ length s
two_long s {r} e f = omega (arith, (started s (sym e ∙ not-false r f)).four)

pub returns-then-not-starts_pa : goal.returns-then-not-starts_pa
returns-then-not-starts_pa c = no_start c.args.payload.now (sym c.starts_pa.ensures ∙ not-true _ c.if-not-starts_pa.true-raw)

pub slice_bounds-message_of-count : goal.slice_bounds-message_of-count
slice_bounds-message_of-count c = two_long _ c.starts_pa.ensures c.if-not-starts_pa.false-raw

pub slice_bounds-message_of-start : goal.slice_bounds-message_of-start
slice_bounds-message_of-start c = two_long _ c.starts_pa.ensures c.if-not-starts_pa.false-raw

pub returns-in_err-message : goal.returns-in_err-message
returns-in_err-message c =
    let s = c.args.payload.now in
    rw c.from_residual.ensures (no_message s (started s (sym c.starts_pa.ensures ∙ not-false _ c.if-not-starts_pa.false-raw)) c.in_err-message.ensures)

pub overflow_add-end : goal.overflow_add-end
overflow_add-end c = omega (arith, c.in_ok-message.ensures.2)

pub slice_bounds-pa_tables-count : goal.slice_bounds-pa_tables-count
slice_bounds-pa_tables-count c = (pa_ends c.args.payload.now (started c.args.payload.now (sym c.starts_pa.ensures ∙ not-false _ c.if-not-starts_pa.false-raw)) c.in_ok-message.message c.in_ok-message.ensures).nine

pub slice_bounds-pa_tables-start : goal.slice_bounds-pa_tables-start
slice_bounds-pa_tables-start c = (pa_ends c.args.payload.now (started c.args.payload.now (sym c.starts_pa.ensures ∙ not-false _ c.if-not-starts_pa.false-raw)) c.in_ok-message.message c.in_ok-message.ensures).nine

pub slice_bounds-pa_tables-end : goal.slice_bounds-pa_tables-end
slice_bounds-pa_tables-end c = (pa_ends c.args.payload.now (started c.args.payload.now (sym c.starts_pa.ensures ∙ not-false _ c.if-not-starts_pa.false-raw)) c.in_ok-message.message c.in_ok-message.ensures).within

pub returns-in_err-tables : goal.returns-in_err-tables
returns-in_err-tables c =
    let s = c.args.payload.now in
    rw c.from_residual-in_err-tables.ensures
    (headless_pa s _ (pa_ends s (started s (sym c.starts_pa.ensures ∙ not-false _ c.if-not-starts_pa.false-raw)) c.in_ok-message.message c.in_ok-message.ensures) c.in_err-tables.ensures)

pub returns : goal.returns
returns c =
    let s = c.args.payload.now in
    pa_found s _ (pa_ends s (started s (sym c.starts_pa.ensures ∙ not-false _ c.if-not-starts_pa.false-raw)) c.in_ok-message.message c.in_ok-message.ensures) _ c.in_ok-tables.ensures
