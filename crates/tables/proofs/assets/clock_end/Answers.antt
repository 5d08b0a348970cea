use Rattle.tables.proofs.AssetLaws.{clock_absent, clock_cut, clock_short, clock_long}
use native.Mathlib.Omega.{arith}
use Rattle.tables.proofs.assets.clock_end.Goals as goal

pub returns-then-flags-eq0 : goal.returns-then-flags-eq0
returns-then-flags-eq0 c = let a = c.args in clock_absent a.s.now a.at a.flags c.if-flags-eq0.true c.requires

pub returns-then-s-at-lt2 : goal.returns-then-s-at-lt2
returns-then-s-at-lt2 c =
    let a = c.args in
    clock_cut a.s.now a.at a.flags (omega arith) (λ i. omega (arith, c.type_inv.s i)) (omega arith)

pub returns-then-s-at-eq0 : goal.returns-then-s-at-eq0
returns-then-s-at-eq0 c =
    let a = c.args in
    clock_short a.s.now a.at a.flags (omega arith) (λ i. omega (arith, c.type_inv.s i)) (omega arith) c.if-s-at-eq0.true

pub returns : goal.returns
returns c =
    let a = c.args in
    rw (clock_long a.s.now a.at a.flags (omega arith) (λ i. omega (arith, c.type_inv.s i)) (omega arith) (omega arith))
    c.bytes_end.ensures
