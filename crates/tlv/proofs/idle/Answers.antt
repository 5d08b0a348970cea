use Rattle.tlv.proofs.GapLaws.{quiet_idle}
use Rattle.tlv.proofs.idle.Goals as goal

pub returns-then-quiet : goal.returns-then-quiet
returns-then-quiet c = let a = c.args in quiet_idle a.run.now a.at 64 (rw c.if-quiet.true at c.quiet.ensures)

pub returns : goal.returns
returns c = c.barren.ensures
