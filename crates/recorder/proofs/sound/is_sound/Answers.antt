use Rattle.meaning.specs.Soundness.{sound}
use Rattle.recorder.specs.Filter.{record_in}
use Rattle.recorder.proofs.sound.is_sound.Goals as goal

pub returns : goal.returns
unfolding sound record_in
returns c = rw c.extent_of.ensures at c.parts_sound.ensures
