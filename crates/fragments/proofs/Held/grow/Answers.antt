use mathlib.Core.Path.{◌∙◌}
use native.Mathlib.Omega.{arith}
use Rattle.fragments.proofs.RoomLaws.{some_numbers}
use Rattle.fragments.proofs.GrowLaws.{grows_there, absent}
use Rattle.fragments.proofs.Held.grow.Goals as goal

pub returns-in_default : goal.returns-in_default
returns-in_default c =
    let h = rw c.in_default.is at c.index_of.ensures in
    absent h.0 (omega arith)

pub grow_at-requires : goal.grow_at-requires
grow_at-requires c =
    let place = c.place_of-place in
    let h = rw c.in-Some.is at c.index_of.ensures in
    (omega (arith, place.ensures.0, h.1), place.ensures.1, place.ensures.2, some_numbers c.requires)

pub returns : goal.returns
returns c =
    let h = rw c.in-Some.is at c.index_of.ensures in
    grows_there (c.place_of-place.ensures.0 ∙ h.0) c.grow_at.ensures
