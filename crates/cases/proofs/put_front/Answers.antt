use Rattle.meaning.proofs.Writes.{wrote_then}
use Rattle.cases.specs.Answers.{front_bytes}
use Rattle.cases.proofs.put_front.Goals as goal

pub returns : goal.returns
unfolding front_bytes
returns c = rw (← c.refused_number.ensures, ← c.changed_flag.ensures, ← c.changed_length.ensures) (wrote_then c.put8-a.ensures (wrote_then c.put8-b.ensures c.put32.ensures))
