use Rattle.passing.proofs.StepLaws.{going_along, signal_room, going_signal}
use Rattle.passing.proofs.RunLaws.{going_begin, going_some, going_done}
use Rattle.passing.proofs.packets.Goals as goal

pub loop-next-init : goal.loop-next-init
loop-next-init c = let p = c.requires in going_begin _ _ _ p.0 p.1

pub returns-in_default : goal.returns-in_default
returns-in_default c =
    let g = going_along _ _ _ _ _ c.loop-next.invariant _ _ _ c.plain_packets-x.ensures.0 c.plain_packets-x.auto.out in
    going_done _ _ _ _ _ g (rw c.in_default.is at c.plain_packets-x.ensures.1)

pub signalling-s-requires : goal.signalling-s-requires
signalling-s-requires c =
    let st = rw c.in-Some.is at c.plain_packets-x.ensures.1 in
    let g = going_along _ _ _ _ _ c.loop-next.invariant _ _ _ c.plain_packets-x.ensures.0 c.plain_packets-x.auto.out in
    (st.1, signal_room _ _ _ _ _ g _ st.0, going_some _ _ _ _ _ g)

pub loop-next-preserved : goal.loop-next-preserved
loop-next-preserved c =
    let st = rw c.in-Some.is at c.plain_packets-x.ensures.1 in
    let g = going_along _ _ _ _ _ c.loop-next.invariant _ _ _ c.plain_packets-x.ensures.0 c.plain_packets-x.auto.out in
    let e = c.signalling-s in
    going_signal _ _ _ _ _ g _ _ st.0 e.ensures.0 e.ensures.1 (record { map_room_same = e.auto.map_room; bodies_same = e.auto.bodies; out_same = e.auto.out })
