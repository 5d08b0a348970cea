use borrow.Author.Tests.{ne_eqb, lt-ltb, le-ltb}
use Rattle.recorder.proofs.front.front_by.Goals as goal

pub returns-then-held_count-eq0 : goal.returns-then-held_count-eq0
returns-then-held_count-eq0 c = rw (c.in-Skip.is, c.if-held_count-eq0.true)

pub returns-then-held_count-eq0-2 : goal.returns-then-held_count-eq0-2
returns-then-held_count-eq0-2 c = rw (c.in-Packet.is, c.if-held_count-eq0-2.true)

pub returns-then-size-held_count : goal.returns-then-size-held_count
returns-then-size-held_count c = rw (c.in-Packet.is, ne_eqb _ _ c.if-held_count-eq0-2.false, lt-ltb _ _ c.if-size-held_count.true)

pub returns-else-held_count-eq0 : goal.returns-else-held_count-eq0
returns-else-held_count-eq0 c = rw (c.in-Skip.is, ne_eqb _ _ c.if-held_count-eq0.false)

pub returns-else-size-held_count : goal.returns-else-size-held_count
returns-else-size-held_count c = rw (c.in-Packet.is, ne_eqb _ _ c.if-held_count-eq0-2.false, le-ltb _ _ c.if-size-held_count.false)
