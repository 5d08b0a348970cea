use borrow.Author.Tests.{lt-ltb, le-ltb}
use Rattle.tlv.specs.Answers.{extended_to}
use Rattle.tlv.proofs.extended.Goals as goal

pub returns-then-s-at : goal.returns-then-s-at
unfolding extended_to
returns-then-s-at c = rw (lt-ltb _ _ c.if-s-at.true)

pub returns : goal.returns
unfolding extended_to
returns c = rw (le-ltb _ _ c.if-s-at.false, ← c.be16.ensures.0) c.header_to.ensures
