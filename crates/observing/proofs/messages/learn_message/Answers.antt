use native.Mathlib.Omega.{arith}
use mathlib.Core.Path.{ap}
use Rattle.observing.proofs.MessageSteps.{part_lost, message_pa, message_data, message_other, found_none, found_after}
use Rattle.observing.proofs.messages.learn_message.Goals as goal

pub returns-in_default : goal.returns-in_default
returns-in_default c =
    let a = c.args in
    ((λ k h. found_none a.id a.s.now k a.e a.e a.kept.now a.kept.now a.map_room.now (rw c.in_default.is at c.message_of.ensures) h), omega arith)

pub returns-then-m-eq0 : goal.returns-then-m-eq0
returns-then-m-eq0 c =
    let a = c.args in
    let x = rw c.in-Some.is at c.message_of.ensures in (
      (λ k h. found_after a.id a.s.now k a.e _ a.kept.now _ _ _ _ x.3
          (message_pa a.id _ k a.e a.kept.now a.map_room.now h c.if-m-eq0.true _ _ _ (c.learn_pa.ensures.0 k h))),
      part_lost a.e.lost a.s.now c.in-Some.m.start c.in-Some.m.end _ c.learn_pa.ensures.1,
    )

pub returns-then-m : goal.returns-then-m
returns-then-m c =
    let a = c.args in
    let x = rw c.in-Some.is at c.message_of.ensures in (
      (λ k h. found_after a.id a.s.now k a.e _ a.kept.now _ a.map_room.now _ _ x.3
          (message_data a.id _ k a.e a.kept.now a.map_room.now h c.if-m-eq0.false c.if-m.true _ _ c.learn_data.ensures)),
      omega (arith, ap (λ z. z.lost) c.learn_data.ensures.1),
    )

pub returns : goal.returns
returns c =
    let a = c.args in
    let x = rw c.in-Some.is at c.message_of.ensures in (
      (λ k h. found_after a.id a.s.now k a.e a.e a.kept.now a.kept.now a.map_room.now _ _ x.3
          (message_other a.id _ k a.e a.kept.now a.map_room.now h c.if-m-eq0.false c.if-m.false)),
      omega arith,
    )
