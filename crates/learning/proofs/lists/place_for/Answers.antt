use lib.Dec.{eqb}
use lib.ListN.{take, length}
use lib.Seq.{length-take-le}
use Prim.Native.Nat.{◌/◌}
use mathlib.Core.Path.{◌≡◌, sym, ◌∙◌}
use native.Mathlib.Omega.{arith}
use Rattle.std.proofs.Common.{rules, tests}
use Rattle.std.proofs.lemmas.Iterator.{YieldsList-from_slice}
use Rattle.std.proofs.lemmas.Iterator.Search.{position_from_yields_List}
use Rattle.learning.proofs.PlaceForLaws.{found_or, place_is}
use Rattle.learning.proofs.lists.place_for.Goals as goal

pub returns : goal.returns
returns c =
    let a = c.args in
    let xs = take a.n a.map_heads.now in
    let l : length xs ≡ a.n = length-take-le a.n a.map_heads.now (omega arith) in
    let found =
    position_from_yields_List (λ x. eqb (x / 65536) a.id) _ _ _ c.position.ensures.ran (YieldsList-from_slice xs c.iter.ensures.rest) (λ x b q k. search (rules, tests)) in
    let at = found_or _ c.position.result xs a.n l found in
    rw c.unwrap_or.ensures (at.0 ∙ sym (place_is a.id xs), at.1)
