use mathlib.Core.Path.{◌≡◌}
use native.Mathlib.Omega.{arith}
use lib.ListN.{length}
use Rattle.recorder.proofs.CallLaws.{wrote_to}
use Rattle.recorder.proofs.call.copied.Goals as goal

pub returns : goal.returns
returns c =
    let a = c.args in
    let copied = c.copy-n in
    let q : copied.result ≡ length a.chunk.now = omega (arith, copied.ensures.end) in
    (rw (c.counts_of.ensures, q), wrote_to q copied.ensures)
