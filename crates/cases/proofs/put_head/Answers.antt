use native.Mathlib.Omega.{arith}
use Rattle.meaning.proofs.Writes.{wrote_then}
use Rattle.cases.proofs.Laws.{six, twelve}
use Rattle.cases.specs.Answers.{head_bytes}
use Rattle.cases.proofs.put_head.Goals as goal

pub put_row-b-requires : goal.put_row-b-requires
put_row-b-requires c = let a = c.args in omega (arith, c.put_front-a.ensures.end, six a.r.narrowing)

pub put_row-requires : goal.put_row-requires
put_row-requires c = let a = c.args in omega (arith, c.put_front-a.ensures.end, six a.r.narrowing, c.put_row-b.ensures.end, twelve a.r.stayed)

pub returns : goal.returns
unfolding head_bytes
returns c = wrote_then c.put_front-a.ensures (wrote_then c.put_row-b.ensures c.put_row.ensures)
