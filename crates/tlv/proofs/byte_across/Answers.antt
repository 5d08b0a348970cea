use Rattle.tlv.proofs.AcrossLaws.{byte_second}
use lib.ListN.{length-append, get_or-append}
use native.Mathlib.Omega.{arith}
use mathlib.Core.Path.{sym}
use Rattle.tlv.proofs.byte_across.Goals as goal

pub returns-then-at-k : goal.returns-then-at-k
returns-then-at-k c = let a = c.args in sym (get_or-append a.held.now a.chunk.now 0 a.at (omega arith))

pub bounds-chunk-at : goal.bounds-chunk-at
bounds-chunk-at c = let a = c.args in omega (arith, length-append a.held.now a.chunk.now)

pub returns : goal.returns
returns c = let a = c.args in byte_second a.held.now a.chunk.now a.at (omega arith)
