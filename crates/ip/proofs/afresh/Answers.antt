use native.Mathlib.Omega.{arith}
use Rattle.ip.proofs.CodeLaws.{part_4, part_6, part_other}
use Rattle.ip.proofs.afresh.Goals as goal

pub afresh4-requires : goal.afresh4-requires
afresh4-requires c = c.requires.0.0 c.if-tlv_type-eq1.true

pub returns-then-tlv_type-eq1 : goal.returns-then-tlv_type-eq1
returns-then-tlv_type-eq1 c =
    let a = c.args in
    part_4 a.tlv_type a.at a.end a.out.now (omega arith) (omega arith) _ c.if-tlv_type-eq1.true c.afresh4.ensures

pub afresh6-requires : goal.afresh6-requires
afresh6-requires c = c.requires.0.1 c.if-tlv_type-eq2.true

pub returns-then-tlv_type-eq2 : goal.returns-then-tlv_type-eq2
returns-then-tlv_type-eq2 c =
    let a = c.args in
    part_6 a.tlv_type a.at a.end a.out.now (omega arith) (omega arith) _ c.if-tlv_type-eq2.true c.afresh6.ensures

pub returns-else-tlv_type-eq2 : goal.returns-else-tlv_type-eq2
returns-else-tlv_type-eq2 c =
    let a = c.args in
    part_other a.tlv_type a.at a.end a.out.now c.requires.1 c.requires.2 c.if-tlv_type-eq1.false c.if-tlv_type-eq2.false
