use native.Mathlib.Omega.{arith}
use Rattle.meaning.proofs.Writes.{wrote_then}
use Rattle.cases.specs.Answers.{three_bytes}
use Rattle.meaning.specs.Bytes.{put16, put32}
use Rattle.cases.proofs.put_three.Goals as goal

pub put32-third-requires : goal.put32-third-requires
unfolding put32 put16
put32-third-requires c = omega (arith, c.put32-second.ensures.end)

pub put32-requires : goal.put32-requires
unfolding put32 put16
put32-requires c = omega (arith, c.put32-second.ensures.end, c.put32-third.ensures.end)

pub returns : goal.returns
unfolding three_bytes
returns c = wrote_then c.put32-second.ensures (wrote_then c.put32-third.ensures c.put32.ensures)
