use mathlib.Core.Path.{refl}
use lib.ListN.{length}
use native.Mathlib.Omega.{arith}
use Rattle.meaning.specs.Narrow.{change_packet, narrow_refusal}
use Rattle.narrowing.proofs.AnswerLaws.{not_refused, refused_answer, unchanged_answer, changed_answer, unread_stays, other_payload_type, payload_short, read_so, packet_stays, packet_changes}
use Rattle.narrowing.proofs.narrow.narrow_packet.Goals as goal

pub returns-in-Some : goal.returns-in-Some
returns-in-Some c =
    let a = c.args in
    refused_answer (narrow_refusal (length a.p.now) (length a.out.now)) (change_packet a.modes a.o a.p.now) a.out.now _ _ _ c.in-Some.r
    (rw c.in-Some.is at c.refusal.ensures) c.without_counts.ensures

pub returns-in_default-mmtp_of : goal.returns-in_default-mmtp_of
returns-in_default-mmtp_of c =
    let a = c.args in
    let f = not_refused (length a.p.now) (length a.out.now) (rw c.in_default.is at c.refusal.ensures) in
    unchanged_answer (narrow_refusal (length a.p.now) (length a.out.now)) (change_packet a.modes a.o a.p.now) a.out.now _ _ _ _ refl f.0
    (unread_stays a.modes a.o a.p.now (rw c.in_default-mmtp_of.is at c.mmtp_of.ensures)) c.without_counts-in_default-mmtp_of.ensures

pub returns-then-mmtp-ne2 : goal.returns-then-mmtp-ne2
returns-then-mmtp-ne2 c =
    let a = c.args in
    let f = not_refused (length a.p.now) (length a.out.now) (rw c.in_default.is at c.refusal.ensures) in
    let h = rw c.in-Some-mmtp_of.is at c.mmtp_of.ensures in
    unchanged_answer (narrow_refusal (length a.p.now) (length a.out.now)) (change_packet a.modes a.o a.p.now) a.out.now _ _ _ _ refl f.0
    (other_payload_type a.modes a.o a.p.now _ h c.if-mmtp-ne2.true) c.without_counts-then-mmtp-ne2.ensures

pub rewrite-rewritten-requires : goal.rewrite-rewritten-requires
rewrite-rewritten-requires c =
    let a = c.args in
    let f = not_refused (length a.p.now) (length a.out.now) (rw c.in_default.is at c.refusal.ensures) in
    let h = rw c.in-Some-mmtp_of.is at c.mmtp_of.ensures in
    (read_so a.modes a.o a.p.now _ h _ c.packet_payload-payload.ensures c.if-mmtp-ne2.false, omega (arith, f.2))

pub returns-in_default-rewritten : goal.returns-in_default-rewritten
returns-in_default-rewritten c =
    let a = c.args in
    let f = not_refused (length a.p.now) (length a.out.now) (rw c.in_default.is at c.refusal.ensures) in
    let h = rw c.in-Some-mmtp_of.is at c.mmtp_of.ensures in
    let k = rw c.in_default-rewritten.is at c.rewrite-rewritten.ensures in
    unchanged_answer (narrow_refusal (length a.p.now) (length a.out.now)) (change_packet a.modes a.o a.p.now) a.out.now _ _ _ _ k.1 f.0
    (packet_stays a.modes a.o a.p.now _ h _ c.packet_payload-payload.ensures c.if-mmtp-ne2.false k.0) c.without_counts-in_default-rewritten.ensures

pub count_payload-requires : goal.count_payload-requires
count_payload-requires c =
    let a = c.args in
    let f = not_refused (length a.p.now) (length a.out.now) (rw c.in_default.is at c.refusal.ensures) in
    let h = rw c.in-Some-mmtp_of.is at c.mmtp_of.ensures in
    omega (arith, payload_short a.modes a.o a.p.now _ h _ c.packet_payload-payload.ensures, f.1)

pub returns : goal.returns
returns c =
    let a = c.args in
    let f = not_refused (length a.p.now) (length a.out.now) (rw c.in_default.is at c.refusal.ensures) in
    let h = rw c.in-Some-mmtp_of.is at c.mmtp_of.ensures in
    let k = rw c.in-Some-rewritten.is at c.rewrite-rewritten.ensures in
    changed_answer (narrow_refusal (length a.p.now) (length a.out.now)) (change_packet a.modes a.o a.p.now) a.out.now _ _ _ _ _ _ a.o _ k.0 f.0
    (packet_changes a.modes a.o a.p.now _ h _ c.packet_payload-payload.ensures c.if-mmtp-ne2.false k.0 k.1) k.2
    c.count_payload.ensures c.answer_of.ensures
