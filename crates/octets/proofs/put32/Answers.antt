use Rattle.meaning.proofs.Writes.{wrote_then}
use Rattle.meaning.specs.Bytes.{put16, put32}
use native.Mathlib.Omega.{arith}
use Rattle.octets.proofs.put32.Goals as goal

pub put16-requires : goal.put16-requires
unfolding put16
put16-requires c = let p = c.put16-low in omega (arith, p.ensures.end)

pub returns : goal.returns
unfolding put32
returns c = wrote_then c.put16-low.ensures c.put16.ensures
