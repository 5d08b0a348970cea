use native.Mathlib.Omega.{arith}
use Rattle.observing.proofs.MessageSteps.{parts_begin, parts_next, parts_done}
use Rattle.observing.proofs.messages.learn_aggregate.Goals as goal

pub loop-part-init : goal.loop-part-init
loop-part-init c =
    let a = c.args in
    parts_begin a.s.now a.long a.id a.known a.kept.now a.map_room.now c.requires.1

pub loop-part-preserved : goal.loop-part-preserved
loop-part-preserved c =
    let a = c.args in
    let l = c.loop-part in
    let y = c.learn_message-e in
    parts_next a.s.now a.long a.id a.known a.kept.now a.map_room.now l.e l.at l.kept l.map_room l.invariant _ (rw c.in-Some.is at c.frame_at.ensures) _ _ _ y.auto.map_room y.ensures.0 y.ensures.1

pub returns : goal.returns
returns c =
    let a = c.args in
    let l = c.loop-part in
    let done = rw c.in_default.is at c.frame_at.ensures in
    (parts_done a.s.now a.long a.id a.known a.kept.now a.map_room.now l.e l.at l.kept l.map_room l.invariant done, omega (arith, l.invariant.countable))
