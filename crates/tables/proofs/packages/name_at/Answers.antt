use Rattle.tables.proofs.PackageLaws.{name_other, name_two}
use Rattle.tables.proofs.packages.name_at.Goals as goal

pub returns-then-end-at : goal.returns-then-end-at
returns-then-end-at c =
    name_other c.args.s.now c.args.at c.args.end c.requires.0 c.requires.1 c.if-end-at.true

pub returns : goal.returns
returns c =
    name_two c.args.s.now c.args.at c.args.end c.requires.0 c.requires.1 c.id16.result c.id16.ensures c.if-end-at.false
