use borrow.Author.Tests.{not-true, not-false}
use Rattle.meaning.specs.declared.Step.TheVariants.{Packet}
use lib.ListN.{drop, length-drop}
use native.Mathlib.Omega.{arith}
use mathlib.Core.Path.{sym, ap, ◌∙◌}
use Rattle.tlv.proofs.Laws.{keep_short, skip_here, keep_long, packet_here}
use Rattle.tlv.proofs.next.Goals as goal

pub returns-then-len-lt4 : goal.returns-then-len-lt4
returns-then-len-lt4 c = let a = c.args in sym (keep_short a.most (drop a.at a.run.now) (omega (arith, length-drop a.at a.run.now)))

pub returns-then-len-at : goal.returns-then-len-at
returns-then-len-at c = let a = c.args in sym (keep_short a.most (drop a.at a.run.now) (omega (arith, length-drop a.at a.run.now)))

pub returns-then-not-starts_packet : goal.returns-then-not-starts_packet
returns-then-not-starts_packet c =
    let a = c.args in
    sym (skip_here a.most (drop a.at a.run.now) (omega (arith, length-drop a.at a.run.now)) (sym c.starts_packet.ensures ∙ not-true c.starts_packet.result c.if-not-starts_packet.true-raw))

pub returns-then-len-at-2 : goal.returns-then-len-at-2
returns-then-len-at-2 c =
    let a = c.args in
    let l = length-drop a.at a.run.now in
    sym (keep_long a.most (drop a.at a.run.now) (omega arith) (sym c.starts_packet.ensures ∙ not-false c.starts_packet.result c.if-not-starts_packet.false-raw) (omega arith))

pub returns : goal.returns
returns c =
    let a = c.args in
    let l = length-drop a.at a.run.now in
    ap Packet c.size_at-n.ensures.0
    ∙ sym (packet_here a.most (drop a.at a.run.now) (omega arith) (sym c.starts_packet.ensures ∙ not-false c.starts_packet.result c.if-not-starts_packet.false-raw) (omega arith))
