use borrow.Author.Tests.{not-true, not-false}
use Prim.Native.Nat.{◌-◌, ◌≤◌, ◌<◌}
use lib.ListN.{length}
use native.Mathlib.Omega.{arith}
use borrow.Author.Tests.{le-leb, lt-leb}
use Rattle.tlv.proofs.Laws.{followed_is}
use Rattle.tlv.proofs.starts_packet.Goals as goal

pub returns-then-not-candidate : goal.returns-then-not-candidate
returns-then-not-candidate c = rw (← c.candidate.ensures, not-true c.candidate.result c.if-not-candidate.true-raw)

pub returns-then-run-next : goal.returns-then-run-next
returns-then-run-next c =
    let a = c.args in
    let n = c.size_at.result in
    let h : length a.run.now - a.at ≤ n = omega arith in
    rw (← c.candidate.ensures, not-false c.candidate.result c.if-not-candidate.false-raw, followed_is a.run.now a.at, ← c.size_at.ensures.0, le-leb _ _ h)

pub returns : goal.returns
returns c =
    let a = c.args in
    let n = c.size_at.result in
    let h : n < length a.run.now - a.at = omega arith in
    rw (← c.candidate.ensures, not-false c.candidate.result c.if-not-candidate.false-raw, followed_is a.run.now a.at, ← c.size_at.ensures.0, lt-leb _ _ h)
