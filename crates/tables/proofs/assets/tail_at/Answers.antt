use Rattle.tables.proofs.AssetLaws.{tail_clock, tail_count, tail_locations, tail_descriptors, tail_whole}
use Rattle.tables.proofs.assets.tail_at.Goals as goal

pub plain_tail-requires : goal.plain_tail-requires
plain_tail-requires c = rw (← c.is_plain.ensures) c.if-is_plain.true

pub returns-in_err-counts : goal.returns-in_err-counts
returns-in_err-counts c =
    let a = c.args in
    rw c.from_residual.ensures (tail_clock a.s.now a.at a.flags c.in_err-counts.ensures)

pub returns-then-s-counts : goal.returns-then-s-counts
returns-then-s-counts c =
    let a = c.args in
    tail_count a.s.now a.at a.flags _ c.in_ok-counts.ensures c.if-s-counts.true

pub returns-in_err-located : goal.returns-in_err-located
returns-in_err-located c =
    let a = c.args in
    let w = c.wide in
    rw c.from_residual-in_err-located.ensures
    (tail_locations a.s.now a.at a.flags _ c.in_ok-counts.ensures w.result c.if-s-counts.false w.ensures.0 w.ensures.1 c.in_err-located.ensures)

pub returns-in_err-end : goal.returns-in_err-end
returns-in_err-end c =
    let a = c.args in
    let w = c.wide in
    rw c.from_residual-in_err-end.ensures
    (tail_descriptors a.s.now a.at a.flags _ c.in_ok-counts.ensures w.result c.if-s-counts.false w.ensures.0 w.ensures.1 _ c.in_ok-located.ensures c.in_err-end.ensures)

pub returns : goal.returns
returns c =
    let a = c.args in
    let w = c.wide in
    tail_whole a.s.now a.at a.flags _ c.in_ok-counts.ensures w.result c.if-s-counts.false w.ensures.0 w.ensures.1 _ c.in_ok-located.ensures _ c.in_ok-end.ensures
