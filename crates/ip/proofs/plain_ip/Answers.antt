use mathlib.Core.Path.{sym, ◌∙◌}
use Rattle.ip.proofs.CodeLaws.{plain_4, plain_6, plain_other}
use Rattle.ip.proofs.plain_ip.Goals as goal

pub returns-then-tlv_type-eq1 : goal.returns-then-tlv_type-eq1
returns-then-tlv_type-eq1 c = c.plain4.ensures ∙ sym (plain_4 _ _ c.if-tlv_type-eq1.true)

pub returns-then-tlv_type-eq2 : goal.returns-then-tlv_type-eq2
returns-then-tlv_type-eq2 c = c.plain6.ensures ∙ sym (plain_6 _ _ c.if-tlv_type-eq2.true)

pub returns : goal.returns
returns c = sym (plain_other _ _ c.if-tlv_type-eq1.false c.if-tlv_type-eq2.false)
