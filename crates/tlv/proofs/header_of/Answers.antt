use lib.ListN.{get_or}
use Prim.Native.Nat.{◌/◌}
use native.Mathlib.Omega.{arith}
use lib.Bits.{and_mask}
use Rattle.tlv.proofs.Laws.{head_short, head_plain, head_extended}
use Rattle.tlv.proofs.header_of.Goals as goal

pub returns-then-s-lt12 : goal.returns-then-s-lt12
returns-then-s-lt12 c = head_short c.args.s.now c.if-s-lt12.true

pub extended-requires : goal.extended-requires
extended-requires c =
    let f = get_or c.args.s.now 0 0 in
    (omega arith, omega (arith, c.wide.ensures.0, and_mask (f / 32) 1))

pub returns-then-flags-eq1 : goal.returns-then-flags-eq1
returns-then-flags-eq1 c =
    let s = c.args.s.now in
    let f = get_or s 0 0 in
    rw c.extended.ensures
    (head_extended s _ c.if-s-lt12.false (omega (arith, c.type_inv.s 0))
    (omega (arith, c.wide.ensures.0, and_mask (f / 32) 1)) (omega (arith, c.if-flags-eq1.true, and_mask (f / 2) 1)))

pub returns : goal.returns
returns c =
    let s = c.args.s.now in
    let f = get_or s 0 0 in
    rw c.header_to.ensures
    (head_plain s _ c.if-s-lt12.false (omega (arith, c.type_inv.s 0))
    (omega (arith, c.wide.ensures.0, and_mask (f / 32) 1)) (omega (arith, c.if-flags-eq1.false, and_mask (f / 2) 1)))
