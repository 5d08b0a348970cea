use Rattle.meaning.proofs.Writes.{wrote_then}
use Rattle.meaning.specs.Bytes.{put16}
use Rattle.octets.proofs.put16.Goals as goal

pub returns : goal.returns
unfolding put16
returns c = wrote_then c.put8-low.ensures c.put8.ensures
