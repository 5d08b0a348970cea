use Rattle.std.proofs.Common.{rules}
use Rattle.std.proofs.lemmas.Iterator.{YieldsList-from_slice}
use Rattle.std.proofs.lemmas.Iterator.Search.{any_from_yields_List}
use borrow.Author.Tests.{tests}
use lib.Dec.{eqb}
use mathlib.Core.Path.{◌∙◌}
use Rattle.rules.proofs.WalkLaws.{any_in}
use Rattle.soundness.proofs.among.Goals as goal

pub returns : goal.returns
returns g c =
    let f = g.H.Head.id_in in
    any_from_yields_List (λ x. eqb c.args.id (f x)) _ _ _ c.any.ensures.ran (YieldsList-from_slice c.args.heads.now c.iter.ensures.rest) (λ x b q k. search (rules, tests))
    ∙ any_in (eqb c.args.id) f c.args.heads.now
