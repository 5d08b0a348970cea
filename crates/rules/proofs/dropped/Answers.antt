use Rattle.rules.proofs.KnownRules.{counted}
use mathlib.Core.Path.{◌∙◌}
use Rattle.rules.proofs.dropped.Goals as goal

pub returns : goal.returns
returns c = λ k h. c.count.ensures ∙ counted h c.args.o (c.decide.ensures k h)
