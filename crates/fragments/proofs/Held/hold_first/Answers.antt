use mathlib.Core.Path.{sym, ◌∙◌}
use native.Mathlib.Omega.{arith}
use Rattle.fragments.proofs.RoomLaws.{some_numbers}
use Rattle.fragments.proofs.GrowLaws.{first_held, first_not_held, first_room}
use Rattle.fragments.proofs.Held.hold_first.Goals as goal

pub first_fits-requires : goal.first_fits-requires
first_fits-requires c =
    let n = some_numbers c.requires in
    let place = c.place_of-place in
    omega (arith, place.ensures.2.all_is, n.within)

pub put_behind-requires : goal.put_behind-requires
put_behind-requires c =
    let a = c.args in
    let place = c.place_of-place in
    let r = first_room place.result.index a.body.now _ a.bodies.now (sym c.first_fits.ensures ∙ c.if-first_fits.true) in
    (r.0, place.ensures.2, some_numbers c.requires, omega (arith, r.1))

pub returns-then-first_fits : goal.returns-then-first_fits
returns-then-first_fits c =
    let place = c.place_of-place in
    first_held (place.ensures.0 ∙ c.unwrap_or.ensures ∙ c.index_of-found.ensures.0) place.ensures.2 place.ensures.1 c.put_behind.ensures

pub drop_found-requires : goal.drop_found-requires
drop_found-requires c =
    (c.index_of-found.ensures.1, some_numbers c.requires)

pub returns : goal.returns
returns c =
    let place = c.place_of-place in
    let n = some_numbers c.requires in
    let at = place.ensures.0 ∙ c.unwrap_or.ensures in
    first_not_held (at ∙ c.index_of-found.ensures.0) place.ensures.2 n.few
    (sym c.first_fits.ensures ∙ c.if-first_fits.false) at c.drop_found.ensures
