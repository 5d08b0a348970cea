use Rattle.tables.proofs.AssetLaws.{entry_short, entry_cut, entry_broken, entry_whole}
use native.Mathlib.Omega.{arith}
use mathlib.Core.Path.{refl}
use Rattle.tables.proofs.assets.asset_at.Goals as goal

pub returns-then-len-lt6 : goal.returns-then-len-lt6
returns-then-len-lt6 c =
    let a = c.args in
    entry_short a.s.now a.at (λ i. omega (arith, c.type_inv.s i)) (omega arith)

pub returns-then-len-at : goal.returns-then-len-at
returns-then-len-at c =
    let a = c.args in
    entry_short a.s.now a.at (λ i. omega (arith, c.type_inv.s i)) (omega arith)

pub returns-then-len-type_at : goal.returns-then-len-type_at
returns-then-len-type_at c =
    let a = c.args in
    entry_cut a.s.now a.at (λ i. omega (arith, c.type_inv.s i)) _ c.wide.result (omega arith) c.wide.ensures.0 refl c.if-len-type_at.true

pub returns-in_err-tail : goal.returns-in_err-tail
returns-in_err-tail c =
    let a = c.args in
    rw c.from_residual.ensures
    (entry_broken a.s.now a.at (λ i. omega (arith, c.type_inv.s i)) _ c.wide.result (omega arith) c.wide.ensures.0 refl c.if-len-type_at.false c.in_err-tail.ensures)

pub returns : goal.returns
returns c =
    let a = c.args in
    entry_whole a.s.now a.at (λ i. omega (arith, c.type_inv.s i)) _ c.wide.result (omega arith) c.wide.ensures.0 refl c.if-len-type_at.false
    _ _ c.in_ok-tail.ensures c.part_of.ensures
