use borrow.Author.Tests.{eq-eqb}
use native.Mathlib.Omega.{arith}
use Rattle.tlv.proofs.Laws.{candidate_is}
use Rattle.tlv.proofs.candidate.Goals.{then-run-at-eq127, else-run-at-eq127}
use Rattle.tlv.proofs.candidate.Goals as goal

pub returns-then-known_type : goal.returns-then-known_type
returns-then-known_type c =
    let a = c.args in
    elim c.if-run-at-eq127.branch [
      | then-run-at-eq127 w ↦ rw (candidate_is a.run.now a.at a.most, eq-eqb _ 0x7F w.if-run-at-eq127.true, ← w.known_type.ensures, ← w.value-is, c.if-known_type.true, ← c.size_at.ensures.0)
      | else-run-at-eq127 w ↦ grind arith
    ]

pub returns-else-known_type : goal.returns-else-known_type
returns-else-known_type c = let a = c.args in rw (candidate_is a.run.now a.at a.most) (grind arith)
