use mathlib.Core.Path.{sym, ap, ◌∙◌}
use Rattle.meaning.proofs.ChecksumLaws.{folded}
use Rattle.meaning.proofs.ChecksumLaws.{sum_is}
use Rattle.ip.proofs.ones_sum.Goals as goal

pub returns : goal.returns
returns c = (c.fold.ensures.0 ∙ ap folded c.words.ensures.0 ∙ sym (sum_is _), c.fold.ensures.1)
