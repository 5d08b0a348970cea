use native.Mathlib.Omega.{arith}
use Rattle.meaning.specs.Messages.{indicator}
use Rattle.observing.proofs.messages.IndicatorFromU8.from.Goals as goal

pub returns-in-0 : goal.returns-in-0
unfolding indicator
returns-in-0 c = omega (arith, c.in-0.is)

pub returns-in-1 : goal.returns-in-1
unfolding indicator
returns-in-1 c = omega (arith, c.in-1.is)

pub returns-in-2 : goal.returns-in-2
unfolding indicator
returns-in-2 c = omega (arith, c.in-2.is)

pub returns-in_default : goal.returns-in_default
unfolding indicator
returns-in_default c = omega (arith, c.ranges.flags)
