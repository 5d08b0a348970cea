use Rattle.tlv.proofs.AcrossLaws.{length_second}
use borrow.Author.Tests.{le-leb}
use lib.ListN.{length, length-append}
use native.Mathlib.Omega.{arith}
use mathlib.Core.Path.{sym, ◌∙◌}
use mathlib.Core.List.{◌++◌}
use Rattle.tlv.proofs.reaches.Goals as goal

pub returns-then-n-k : goal.returns-then-n-k
returns-then-n-k c = let a = c.args in le-leb a.n (length a.held.now) c.if-n-k.true ∙ sym (le-leb a.n (length (a.held.now ++ a.chunk.now)) (omega (arith, length-append a.held.now a.chunk.now)))

pub returns-else-n-k : goal.returns-else-n-k
returns-else-n-k c = let a = c.args in length_second a.held.now a.chunk.now a.n (omega arith)
