use Rattle.meaning.specs.Start.{no_words}
use Rattle.recorder.specs.Filter.{record_in}
use Rattle.recorder.proofs.fresh.Goals as goal

pub returns : goal.returns
unfolding record_in no_words
returns c = rw c.empty.ensures
