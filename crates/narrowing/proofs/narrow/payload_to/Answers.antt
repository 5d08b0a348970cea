use native.Mathlib.Omega.{arith}
use Rattle.narrowing.proofs.FoundLaws.{payload_written}
use Rattle.narrowing.proofs.narrow.payload_to.Goals as goal

pub overflow_sub-last : goal.overflow_sub-last
overflow_sub-last c = omega (arith, (c.pa_to-last.ensures _ c.requires.0.heads).end)

pub returns : goal.returns
returns c =
    let a = c.args in
    λ h. payload_written a.o a.pid a.payload.now a.changed.pa.end a.changed.pa.tables h (omega (arith, c.requires.2)) c.copy-body.ensures (c.pa_to-last.ensures h.entries h.heads) c.put32.ensures
