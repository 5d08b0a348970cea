use lib.Dec.{eqb}
use lib.ListN.{take}
use Prim.Native.Nat.{◌/◌}
use mathlib.Core.Path.{sym, ◌∙◌}
use Rattle.std.proofs.Common.{rules, tests}
use Rattle.std.proofs.lemmas.Iterator.{YieldsList-from_slice}
use Rattle.std.proofs.lemmas.Iterator.Search.{any_from_yields_List}
use Rattle.learning.proofs.PlaceForLaws.{lists_is}
use Rattle.learning.proofs.packages.lists_service.Goals as goal

pub returns : goal.returns
returns c =
    let a = c.args in
    any_from_yields_List (λ x. eqb (x / 65536) a.service) _ _ _ c.any.ensures.ran (YieldsList-from_slice (take a.n a.packages.now) c.iter.ensures.rest) (λ x b q k. search (rules, tests)) ∙ sym (lists_is a.service (take a.n a.packages.now))
