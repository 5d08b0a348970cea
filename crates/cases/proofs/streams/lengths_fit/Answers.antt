use native.Mathlib.Omega.{arith}
use Rattle.cases.proofs.StreamLaws.{fit_none, fit_next, fit_all, not_fit}
use Rattle.cases.proofs.streams.lengths_fit.Goals as goal

pub loop-i-init : goal.loop-i-init
loop-i-init c = fit_none

pub overflow_mul-i : goal.overflow_mul-i
overflow_mul-i c = omega (arith, c.requires)

pub be32-requires : goal.be32-requires
be32-requires c = omega (arith, c.requires)

pub returns-then-most-be32 : goal.returns-then-most-be32
returns-then-most-be32 c = not_fit c.loop-i-test.true c.be32.ensures.0 c.if-most-be32.true

pub loop-i-preserved : goal.loop-i-preserved
loop-i-preserved c = fit_next c.loop-i.invariant (omega (arith, c.be32.ensures.0, c.if-most-be32.false))

pub returns : goal.returns
returns c = fit_all (omega (arith, c.loop-i-test.false)) c.loop-i.invariant
