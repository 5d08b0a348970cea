use borrow.Author.Tests.{lt-ltb, le-ltb}
use Rattle.tlv.specs.Answers.{header_to}
use Rattle.tlv.proofs.header_to.Goals as goal

pub returns-then-s-start : goal.returns-then-s-start
unfolding header_to
returns-then-s-start c = rw (lt-ltb _ _ c.if-s-start.true)

pub returns : goal.returns
unfolding header_to
returns c = rw (le-ltb _ _ c.if-s-start.false, ← c.id16.ensures)
