use Rattle.tlv.proofs.Laws.{no_ip}
use Rattle.meaning.specs.Mmtp.{offset_of}
use Rattle.tlv.proofs.offset_of.Goals as goal

pub returns-in-3 : goal.returns-in-3
unfolding offset_of
returns-in-3 c = rw c.in-3.is c.compressed.ensures

pub returns-in-1 : goal.returns-in-1
unfolding offset_of
returns-in-1 c = rw (c.in-1.is, ← c.header_length.ensures.0) c.udp_body.ensures

pub returns-in-2 : goal.returns-in-2
unfolding offset_of
returns-in-2 c = rw c.in-2.is c.udp_body-in-2.ensures

pub returns-in_default : goal.returns-in_default
returns-in_default c = rw (no_ip _ c.args.s.now c.in_default.in_default-own.rest.0.0.1 c.in_default.in_default-own.rest.0.1 c.in_default.in_default-own.rest.1)
