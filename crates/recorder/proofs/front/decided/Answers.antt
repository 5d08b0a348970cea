use mathlib.Core.Path.{refl}
use Rattle.recorder.proofs.front.decided.Goals as goal

pub returns : goal.returns
returns c = λ ds f. record { extent_is = refl; counts_are = c.counts_of.ensures; set_is = λ k h. c.decide_on.ensures k ds h f; ready_is = λ k h. c.ready.ensures k _ _ h }
