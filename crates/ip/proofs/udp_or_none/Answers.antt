use mathlib.Core.Bool.{true, false}
use Rattle.ip.proofs.CodeLaws.{asked_so}
use Rattle.ip.proofs.udp_or_none.Goals as goal

pub returns-then-no_checksum : goal.returns-then-no_checksum
returns-then-no_checksum c = asked_so true _ _ _ _ _ _ c.no_checksum.ensures c.if-no_checksum.true c.udp_length_afresh.ensures

pub returns : goal.returns
returns c = asked_so false _ _ _ _ _ _ c.no_checksum.ensures c.if-no_checksum.false c.udp_afresh.ensures
