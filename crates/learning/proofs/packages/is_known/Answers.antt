use borrow.Author.Tests.{eq-eqb}
use Rattle.learning.proofs.PairLaws.{same_is}
use Rattle.learning.proofs.packages.is_known.Goals as goal

pub returns-then-e-n : goal.returns-then-e-n
returns-then-e-n c =
    let h = c.if-e-n.true in
    rw (h.0, eq-eqb c.args.e.package_count c.args.services.now.count h.1, c.eq.ensures, same_is)
