use native.Mathlib.Omega.{arith}
use Rattle.tlv.proofs.Laws.{part_cut, part_read}
use Rattle.tlv.proofs.payload_of.Goals as goal

pub returns-in_default : goal.returns-in_default
returns-in_default c = part_cut c.args.s.now (rw c.in_default.is at c.header_of.ensures)

pub slice_bounds-result-count-2 : goal.slice_bounds-result-count-2
slice_bounds-result-count-2 c = let h = rw c.in-Some.is at c.header_of.ensures in omega (arith, h.0, h.1)

pub slice_bounds-result-start-2 : goal.slice_bounds-result-start-2
slice_bounds-result-start-2 c = let h = rw c.in-Some.is at c.header_of.ensures in omega (arith, h.0, h.1)

pub returns : goal.returns
returns c = part_read c.args.s.now _ (rw c.in-Some.is at c.header_of.ensures)
