use borrow.Author.Tests.{eq-eqb, ne_eqb}
use native.Mathlib.Omega.{arith}
use Rattle.tables.proofs.AssetLaws.{part_number}
use Rattle.tables.proofs.assets.part_of.Goals as goal

pub returns-in-1937010800 : goal.returns-in-1937010800
returns-in-1937010800 c =
    let a = c.args in
    rw (part_number a.s.now a.at c.requires (λ i. omega (arith, c.type_inv.s i)), ← c.be32.ensures.0, eq-eqb c.be32.result 0x73747070 (omega arith))

pub returns-in-1633775728 : goal.returns-in-1633775728
returns-in-1633775728 c =
    let a = c.args in
    let n = c.be32.result in
    rw (part_number a.s.now a.at c.requires (λ i. omega (arith, c.type_inv.s i)), ← c.be32.ensures.0, ne_eqb n 0x73747070 (omega arith), eq-eqb n 0x61617070 (omega arith))

pub returns-in_default : goal.returns-in_default
returns-in_default c =
    let a = c.args in
    let n = c.be32.result in
    rw (part_number a.s.now a.at c.requires (λ i. omega (arith, c.type_inv.s i)), ← c.be32.ensures.0, ne_eqb n 0x73747070 (omega arith), ne_eqb n 0x61617070 (omega arith))
