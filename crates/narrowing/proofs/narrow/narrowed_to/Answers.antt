use Prim.Native.Nat.{◌-◌}
use mathlib.Core.Path.{refl}
use native.Mathlib.Omega.{arith}
use lib.ListN.{length}
use Rattle.narrowing.proofs.FoundLaws.{front_long, payload_room, payload_stays_there, packet_room, packet_long, packet_end, packet_rewritten}
use Rattle.narrowing.proofs.narrow.narrowed_to.Goals as goal

pub returns-in_err-changed : goal.returns-in_err-changed
returns-in_err-changed c =
    let a = c.args in
    λ b. rw c.from_residual.ensures (payload_stays_there a.o a.pid a.p.now a.payload.now c.in_err-changed.ensures b, refl)

pub payload_to-last-requires : goal.payload_to-last-requires
payload_to-last-requires c =
    let a = c.args in
    let h = c.requires in
    let k = c.in_ok-changed.ensures in
    let u = c.copy-c in
    (k.0, k.2, payload_room a.p.now a.payload.now h.0.short u.ensures _ _ k.0 h.1 u.auto.out)

pub overflow_sub-last : goal.overflow_sub-last
overflow_sub-last c =
    let a = c.args in
    let h = c.requires in
    let k = c.in_ok-changed.ensures in
    omega (arith, h.0.short, c.copy-c.ensures.end, (c.payload_to-last.ensures k.0).end, front_long a.p.now (length a.p.now - length a.payload.now) (omega (arith, h.0.short)))

pub overflow_sub-last-2 : goal.overflow_sub-last-2
overflow_sub-last-2 c =
    let a = c.args in
    let h = c.requires in
    let k = c.in_ok-changed.ensures in
    omega (arith, h.0.short, c.copy-c.ensures.end, (c.payload_to-last.ensures k.0).end, front_long a.p.now (length a.p.now - length a.payload.now) (omega (arith, h.0.short)))

pub afresh-requires : goal.afresh-requires
afresh-requires c =
    let a = c.args in
    let h = c.requires in
    let k = c.in_ok-changed.ensures in
    let u = c.copy-c in
    let v = c.payload_to-last in
    let w = c.put16 in (
      packet_room a.o a.pid a.p.now a.payload.now h.0 _ _ k.0 k.1 (omega (arith, h.1)) u.ensures (v.ensures k.0) w.ensures,
      packet_long a.o a.pid a.p.now a.payload.now h.0 _ _ k.0 k.1 (omega (arith, h.1)) u.ensures (v.ensures k.0) w.ensures,
      omega (arith, packet_end a.o a.pid a.p.now a.payload.now h.0 _ _ k.0 k.1 (omega (arith, h.1)) u.ensures (v.ensures k.0) w.ensures h.1, u.auto.out, v.auto.out, w.auto.out),
    )

pub returns : goal.returns
returns c =
    let a = c.args in
    let h = c.requires in
    let k = c.in_ok-changed.ensures in
    packet_rewritten a.o a.pid a.p.now a.payload.now h.0 _ _ k.0 k.1 (omega (arith, h.1)) c.copy-c.ensures (c.payload_to-last.ensures k.0) c.put16.ensures c.afresh.ensures
