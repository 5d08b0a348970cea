use Rattle.std.proofs.Common.{rules}
use Rattle.std.proofs.lemmas.Iterator.{YieldsList-from_slice}
use Rattle.std.proofs.lemmas.Iterator.Search.{all_from_yields_List}
use borrow.Author.Tests.{tests}
use lib.ListN.{take}
use mathlib.Core.Path.{◌∙◌}
use Rattle.meaning.specs.Record.{pair_of}
use Rattle.rules.specs.Changes.{has_list}
use Rattle.rules.proofs.WalkLaws.{all_in}
use Rattle.rules.proofs.all_listed.Goals as goal

pub returns : goal.returns
returns c =
    let a = c.args in
    let has = has_list a.e.map_count a.kept.now.map_heads in
    let ps = take a.e.package_count a.kept.now.packages in
    all_from_yields_List (λ x. has (pair_of x)) _ _ c.all.result c.all.ensures.ran (YieldsList-from_slice ps c.iter.ensures.rest) (λ x b q k. search (rules, tests))
    ∙ all_in has pair_of ps
