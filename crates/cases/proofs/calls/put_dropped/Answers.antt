use Rattle.meaning.proofs.Writes.{wrote_then}
use Rattle.cases.specs.Calls.{dropped_bytes}
use Rattle.cases.proofs.calls.put_dropped.Goals as goal

pub returns : goal.returns
unfolding dropped_bytes
returns c = wrote_then c.put8-n.ensures c.put32.ensures
