use Rattle.tables.proofs.LocationLaws.{location_none, location_type, passed, two_or_four, no_location}
use Rattle.meaning.specs.Tables.{location_body}
use native.Mathlib.Omega.{arith}
use Rattle.tables.proofs.locations.location_at.Goals as goal

pub returns-then-s-at : goal.returns-then-s-at
returns-then-s-at c = let a = c.args in location_none a.s.now a.at c.if-s-at.true

pub returns-in-0 : goal.returns-in-0
returns-in-0 c =
    let a = c.args in
    let b = c.type_inv.s a.at in
    rw (location_type a.s.now a.at (omega arith) (omega (arith, b)), c.in-0.is) c.here.ensures

pub returns-in-1 : goal.returns-in-1
unfolding location_body
returns-in-1 c =
    let a = c.args in
    let b = c.type_inv.s a.at in
    rw (location_type a.s.now a.at (omega arith) (omega (arith, b)), c.in-1.is, c.elsewhere.ensures)
    (passed _ a.s.now c.bytes_end.result c.bytes_end.ensures)

pub returns-in-2 : goal.returns-in-2
returns-in-2 c =
    let a = c.args in
    let b = c.type_inv.s a.at in
    rw (location_type a.s.now a.at (omega arith) (omega (arith, b)), two_or_four _ _ c.in-2.is, c.elsewhere-in-2.ensures)
    (passed _ a.s.now c.bytes_end-in-2.result c.bytes_end-in-2.ensures)

pub returns-in-3 : goal.returns-in-3
unfolding location_body
returns-in-3 c =
    let a = c.args in
    let b = c.type_inv.s a.at in
    rw (location_type a.s.now a.at (omega arith) (omega (arith, b)), c.in-3.is, c.elsewhere-in-3.ensures)
    (passed _ a.s.now c.bytes_end-in-3.result c.bytes_end-in-3.ensures)

pub returns-in-5 : goal.returns-in-5
unfolding location_body
returns-in-5 c =
    let a = c.args in
    let b = c.type_inv.s a.at in
    rw (location_type a.s.now a.at (omega arith) (omega (arith, b)), c.in-5.is, c.elsewhere-in-5.ensures)
    (passed _ a.s.now c.counted_end.result c.counted_end.ensures)

pub returns-in_default : goal.returns-in_default
returns-in_default c =
    let a = c.args in
    let b = c.type_inv.s a.at in
    rw (location_type a.s.now a.at (omega arith) (omega (arith, b)))
    (no_location _ _ (grind arith) (grind arith) (grind arith) (grind arith) (grind arith))
