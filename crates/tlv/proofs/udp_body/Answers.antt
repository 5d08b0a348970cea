use borrow.Author.Tests.{le-leb, lt-leb, ne_eqb}
use Rattle.meaning.specs.Mmtp.{udp}
use Rattle.tlv.proofs.udp_body.Goals as goal

pub returns-then-s-header : goal.returns-then-s-header
unfolding udp
returns-then-s-header c = rw (lt-leb _ _ c.if-s-header.true)

pub returns-then-be16-eq123 : goal.returns-then-be16-eq123
unfolding udp
returns-then-be16-eq123 c = rw (le-leb _ _ c.if-s-header.false, ← c.be16.ensures.0, c.if-be16-eq123.true)

pub returns : goal.returns
unfolding udp
returns c = rw (le-leb _ _ c.if-s-header.false, ← c.be16.ensures.0, ne_eqb _ 123 c.if-be16-eq123.false)
