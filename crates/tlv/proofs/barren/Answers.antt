use Rattle.tlv.proofs.GapLaws.{looked_begin, looked_next}
use Rattle.tlv.specs.Gaps.{may_start}
use native.Mathlib.Omega.{arith}
use Prim.Native.Nat.{◌+◌}
use mathlib.Core.Path.{◌≡◌, refl}
use Rattle.tlv.proofs.barren.Goals as goal

pub loop-i-init : goal.loop-i-init
loop-i-init c = looked_begin (may_start c.args.run.now) c.args.at

pub loop-i-preserved : goal.loop-i-preserved
loop-i-preserved c =
    let a = c.args in
    let l = c.loop-i in
    rw c.near_type.ensures (looked_next (may_start a.run.now) a.at l.i l.starts (may_start a.run.now (a.at + l.i)) refl l.invariant)

pub returns : goal.returns
returns c = let all : c.loop-i.i ≡ 64 = omega arith in rw all at c.loop-i.invariant
