use mathlib.Core.Path.{refl}
use Rattle.cases.specs.Answers.{modes_of}
use Rattle.cases.proofs.modes_of.Goals as goal

pub returns : goal.returns
unfolding modes_of
returns c = refl
