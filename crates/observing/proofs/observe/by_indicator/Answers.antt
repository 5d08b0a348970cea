use native.Mathlib.Omega.{arith}
use Rattle.observing.proofs.observe.by_indicator.Goals as goal

pub returns-in-Whole : goal.returns-in-Whole
returns-in-Whole c =
    let a = c.args in
    let y = c.whole.ensures in
    ((λ L k most h. rw (rw c.in-Whole.is at c.from.ensures) (y.0 L k most h)), omega (arith, y.1), y.2)
