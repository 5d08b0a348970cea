use Rattle.cases.proofs.StreamLaws.{asked_is}
use Rattle.cases.proofs.streams.asked_at.Goals as goal

pub returns : goal.returns
returns c =
    let a = c.args in
    asked_is a.head.now a.at a.modes c.id16.ensures c.options_of.ensures c.modes_of.ensures c.be32.ensures.0 c.be32-2.ensures.0 c.be32-3.ensures.0 c.be32-4.ensures.0
