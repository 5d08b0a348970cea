use Rattle.passing.proofs.RowLaws.{packet_to, row_begin, row_next, row_stops}
use Rattle.passing.specs.declared.Stop.{Stop}
use native.Mathlib.Omega.{arith}
use mathlib.Core.Path.{sym, ◌∙◌}
use Rattle.passing.proofs.row_at.Goals as goal

pub loop-at-init : goal.loop-at-init
loop-at-init c = row_begin _ _ _ _ _ c.requires

pub overflow_add-at : goal.overflow_add-at
overflow_add-at c = omega (arith, (packet_to c.args.limit c.args.run.now c.loop-at.at c.in-Packet.n (sym c.next.ensures ∙ c.in-Packet.is)).inside)

pub slice_bounds-verdict_of-end : goal.slice_bounds-verdict_of-end
slice_bounds-verdict_of-end c = omega (arith, (packet_to c.args.limit c.args.run.now c.loop-at.at c.in-Packet.n (sym c.next.ensures ∙ c.in-Packet.is)).inside)

pub loop-at-smaller : goal.loop-at-smaller
loop-at-smaller c = omega (arith, (packet_to c.args.limit c.args.run.now c.loop-at.at c.in-Packet.n (sym c.next.ensures ∙ c.in-Packet.is)).forth, (packet_to c.args.limit c.args.run.now c.loop-at.at c.in-Packet.n (sym c.next.ensures ∙ c.in-Packet.is)).inside)

pub loop-at-preserved : goal.loop-at-preserved
loop-at-preserved c = row_next _ _ _ _ _ _ _ _ (packet_to c.args.limit c.args.run.now c.loop-at.at c.in-Packet.n (sym c.next.ensures ∙ c.in-Packet.is)) (rw c.in-Pass.is at c.verdict_of.ensures) c.loop-at.invariant

pub returns-in-Withhold : goal.returns-in-Withhold
returns-in-Withhold c =
    rw c.row_to.ensures
    (row_stops _ _ _ _ _ _ _ (Stop.Withhold _) ((packet_to c.args.limit c.args.run.now c.loop-at.at c.in-Packet.n (sym c.next.ensures ∙ c.in-Packet.is)), rw c.in-Withhold.is at c.verdict_of.ensures) c.loop-at.invariant)
