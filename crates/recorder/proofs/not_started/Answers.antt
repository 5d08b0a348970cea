use mathlib.Core.Path.{refl}
use Rattle.meaning.specs.Refusals.{answer_number}
use Rattle.meaning.specs.Start.{no_words, blank}
use Rattle.recorder.proofs.not_started.Goals as goal

pub returns : goal.returns
unfolding answer_number blank no_words
returns c = (refl, c.fresh.ensures)
