use Rattle.std.proofs.Common.{rules}
use Rattle.std.proofs.lemmas.Iterator.{YieldsList-from_slice}
use Rattle.std.proofs.lemmas.Iterator.Search.{any_from_yields_List}
use borrow.Author.Tests.{tests}
use lib.ListN.{take}
use lib.Dec.{eqb}
use mathlib.Core.Bool.{Bool, ◌&&◌}
use Prim.Native.Nat.{ℕ}
use mathlib.Core.Path.{◌∙◌}
use Rattle.meaning.specs.Record.{pair_of}
use Rattle.rules.specs.Changes.{has_list}
use Rattle.rules.proofs.WalkLaws.{any_in}
use Rattle.rules.proofs.service_listed.Goals as goal

pub returns : goal.returns
unfolding pair_of
returns c =
    let a = c.args in
    let has : ℕ × ℕ → Bool = λ x. eqb x.0 a.service && has_list a.e.map_count a.kept.now.map_heads x in
    let ps = take a.e.package_count a.kept.now.packages in
    any_from_yields_List (λ x. has (pair_of x)) _ _ c.any.result c.any.ensures.ran (YieldsList-from_slice ps c.iter.ensures.rest) (λ x b q k. search (rules, tests))
    ∙ any_in has pair_of ps
