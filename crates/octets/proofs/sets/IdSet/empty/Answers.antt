use Rattle.meaning.specs.Start.{no_words}
use mathlib.Core.Path.{refl}
use Rattle.octets.proofs.sets.IdSet.empty.Goals as goal

pub returns : goal.returns
unfolding no_words
returns c = refl
