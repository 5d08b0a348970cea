use native.Mathlib.Omega.{arith}
use Rattle.tlv.proofs.Laws.{header_cut, header_read}
use Rattle.tlv.proofs.mmtp_of.Goals as goal

pub returns-in_err-at : goal.returns-in_err-at
returns-in_err-at c = rw c.from_residual.ensures c.in_err-at.ensures

pub slice_bounds-header_of-count : goal.slice_bounds-header_of-count
slice_bounds-header_of-count c = let g = c.in_ok-at.ensures in omega (arith, g.0, g.1)

pub slice_bounds-header_of-start : goal.slice_bounds-header_of-start
slice_bounds-header_of-start c = let g = c.in_ok-at.ensures in omega (arith, g.0, g.1)

pub returns-in_err-header : goal.returns-in_err-header
returns-in_err-header c = rw c.from_residual-in_err-header.ensures (header_cut c.args.p.now c.in_ok-at.field-0 c.in_ok-at.ensures c.in_err-header.ensures)

pub returns : goal.returns
returns c = header_read c.args.p.now c.in_ok-at.field-0 c.in_ok-at.ensures c.in_ok-header.header c.in_ok-header.ensures
