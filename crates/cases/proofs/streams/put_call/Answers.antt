use Rattle.cases.proofs.Laws.{three_long}
use native.Mathlib.Omega.{arith}
use Rattle.meaning.proofs.Writes.{wrote_then}
use Rattle.cases.specs.Streams.{call_bytes}
use Rattle.cases.proofs.streams.put_call.Goals as goal

pub put_three-d-requires : goal.put_three-d-requires
put_three-d-requires c = let n = c.args.c in omega (arith, c.put8-a.ensures.end, c.put_three-b.ensures.end, three_long n.bytes n.accepted n.written)

pub put32-requires : goal.put32-requires
put32-requires c = let a = c.args in let n = a.c in omega (arith, c.put8-a.ensures.end, c.put_three-b.ensures.end, three_long n.bytes n.accepted n.written, c.put_three-d.ensures.end, three_long n.rewritten n.skipped a.held_count)

pub returns : goal.returns
unfolding call_bytes
returns c = wrote_then c.put8-a.ensures (wrote_then c.put_three-b.ensures (wrote_then c.put_three-d.ensures c.put32.ensures))
