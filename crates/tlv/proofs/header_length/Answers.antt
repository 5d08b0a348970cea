use Prim.Native.Nat.{◌≤◌}
use lib.ListN.{length}
use native.Mathlib.Omega.{arith}
use lib.ListN.{get_or-eq_default}
use Rattle.tlv.proofs.header_length.Goals as goal

pub returns-then-s-eq0 : goal.returns-then-s-eq0
returns-then-s-eq0 c =
    let s = c.args.s.now in
    let h : length s ≤ 0 = omega arith in
    omega (arith, get_or-eq_default s 0 h)
