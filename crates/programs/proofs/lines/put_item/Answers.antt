use Rattle.meaning.specs.Programs.{item}
use Rattle.meaning.proofs.Writes.{wrote_then}
use Rattle.programs.proofs.lines.put_item.Goals as goal

pub returns : goal.returns
unfolding item
returns c = wrote_then c.copy-a.ensures (wrote_then c.put8-b.ensures c.put_digits.ensures)
