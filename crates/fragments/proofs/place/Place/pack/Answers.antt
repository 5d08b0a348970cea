use Prim.Native.Nat.{◌+◌, ◌-◌}
use native.Mathlib.Omega.{arith}
use Rattle.fragments.proofs.BlockLaws.{packed_led, packed_not_led}
use Rattle.fragments.proofs.place.Place.pack.Goals as goal

pub returns-then-self : goal.returns-then-self
returns-then-self c =
    let a = c.args in
    let p = a.self in
    let u = c.move_down in
    let v = c.move_down-then-self in
    packed_led p.index p.leading.count p.start (p.start + p.own) p.leading.bytes p.all a.bodies.now _ _ _ _ (omega arith) (omega arith) (omega arith) (omega arith) u.auto.lent v.auto.lent (p.leading.bytes - p.own) (omega arith) (omega arith) (p.led (omega arith)) u.ensures v.ensures

pub returns : goal.returns
returns c =
    let a = c.args in
    let p = a.self in
    let u = c.move_down-2 in
    let v = c.move_down-3 in
    packed_not_led p.index p.leading.count p.start (p.start + p.own) p.leading.bytes p.all a.bodies.now _ _ _ _ (omega arith) (omega arith) (omega arith) (omega arith) u.auto.lent v.auto.lent (omega arith) (p.behind (omega arith)) u.ensures v.ensures
