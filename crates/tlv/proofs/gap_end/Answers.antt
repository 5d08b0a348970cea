use Rattle.tlv.proofs.GapLaws.{none_short, gap_begin, gap_past, gap_then, gap_stops, run_ends}
use lib.ListN.{length}
use native.Mathlib.Omega.{arith}
use Prim.Native.Nat.{◌<◌}
use Rattle.tlv.proofs.gap_end.Goals as goal

pub loop-to-init : goal.loop-to-init
loop-to-init c = gap_begin _ _ _ c.requires

pub bytes_end-to-requires : goal.bytes_end-to-requires
bytes_end-to-requires c = (omega arith, omega arith)

pub returns-then-to-end : goal.returns-then-to-end
returns-then-to-end c =
    let a = c.args in
    let l = c.loop-to in
    let b = c.blocks_end-from in
    let e = c.bytes_end-to in
    let g = gap_past a.most a.run.now a.at l.to b.result b.ensures l.invariant in
    gap_stops a.most a.run.now a.at e.result (e.ensures.2 c.if-to-end.true) (gap_then a.most a.run.now a.at b.result e.result g e.ensures.1)

pub loop-to-smaller : goal.loop-to-smaller
loop-to-smaller c =
    let a = c.args in
    let l = c.loop-to in
    let b = c.blocks_end-from in
    let s : b.result < length a.run.now = none_short a.run.now l.to b.result c.loop-to-test.true b.ensures in
    let t = c.block_end-end.ensures.2 s in
    omega arith

pub loop-to-preserved : goal.loop-to-preserved
loop-to-preserved c =
    let a = c.args in
    let l = c.loop-to in
    let b = c.blocks_end-from in
    let e = c.bytes_end-to in
    gap_then a.most a.run.now a.at b.result e.result (gap_past a.most a.run.now a.at l.to b.result b.ensures l.invariant) e.ensures.1

pub returns : goal.returns
returns c = run_ends _ _ _ _ (omega (arith, c.loop-to-test)) c.loop-to.invariant
