use native.Mathlib.Omega.{arith}
use Rattle.tlv.proofs.Laws.{no_mmtp, part_in}
use Rattle.tlv.proofs.packet_payload.Goals as goal

pub returns-in_default : goal.returns-in_default
returns-in_default c = no_mmtp c.args.p.now (rw c.in_default.is at c.mmtp_at.ensures)

pub slice_bounds-payload_of-count : goal.slice_bounds-payload_of-count
slice_bounds-payload_of-count c = let g = rw c.in-Some.is at c.mmtp_at.ensures in omega (arith, g.0, g.1)

pub slice_bounds-payload_of-start : goal.slice_bounds-payload_of-start
slice_bounds-payload_of-start c = let g = rw c.in-Some.is at c.mmtp_at.ensures in omega (arith, g.0, g.1)

pub returns : goal.returns
returns c = part_in c.args.p.now _ (rw c.in-Some.is at c.mmtp_at.ensures) _ c.payload_of.ensures
