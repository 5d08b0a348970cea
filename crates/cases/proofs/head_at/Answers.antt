use Rattle.cases.proofs.Laws.{head_is}
use Rattle.cases.proofs.head_at.Goals as goal

pub returns : goal.returns
returns c =
    let a = c.args in
    head_is a.head.now a.at a.modes c.id16.ensures c.options_of.ensures c.modes_of.ensures c.id16-2.ensures c.be32.ensures.0 c.be32-2.ensures.0
