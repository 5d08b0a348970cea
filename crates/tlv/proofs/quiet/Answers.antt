use Rattle.tlv.proofs.GapLaws.{looked_begin, looked_next}
use Rattle.tlv.specs.Gaps.{is_mark}
use native.Mathlib.Omega.{arith}
use mathlib.Core.Path.{◌≡◌, refl}
use Rattle.tlv.proofs.quiet.Goals as goal

pub loop-i-init : goal.loop-i-init
loop-i-init c = looked_begin (is_mark c.args.run.now) c.args.at

pub loop-i-preserved : goal.loop-i-preserved
loop-i-preserved c =
    let l = c.loop-i in
    looked_next (is_mark c.args.run.now) c.args.at l.i l.marked _ refl l.invariant

pub returns : goal.returns
returns c = let all : c.loop-i.i ≡ 64 = omega arith in rw all at c.loop-i.invariant
