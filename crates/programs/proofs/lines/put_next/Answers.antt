use Rattle.meaning.proofs.Writes.{wrote_then}
use Rattle.programs.proofs.lines.put_next.Goals as goal

pub returns : goal.returns
returns c = wrote_then c.put8-a.ensures c.put_item.ensures
