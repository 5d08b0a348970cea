use Rattle.meaning.proofs.Writes.{move_block}
use mathlib.Core.Path.{ap, ◌∙◌}
use lib.ListN.{length-take, length-drop}
use Rattle.meaning.proofs.Writes.{wrote_none}
use lib.ListN.{length, drop}
use native.Mathlib.Omega.{arith}
use native.Mathlib.Nat.{add-zero}
use mathlib.Core.Path.{refl}
use Prim.Native.Nat.{◌+◌}
use Rattle.octets.proofs.blocks_down.Goals as goal

pub loop-i-init : goal.loop-i-init
loop-i-init c = (omega arith, omega arith, refl, rw add-zero (wrote_none _ _))

pub copy-requires : goal.copy-requires
copy-requires c =
    let l = c.loop-i in
    let a = c.args in
    omega (arith, ap length c.lifted-block.ensures, length-take 64 (drop (a.from + l.i) l.lent), length-drop (a.from + l.i) l.lent)

pub loop-i-preserved : goal.loop-i-preserved
loop-i-preserved c =
    let l = c.loop-i in
    let a = c.args in
    let k = c.copy in
    let b = c.lifted-block in
    (omega arith, omega arith, k.auto.out ∙ l.invariant.2, move_block a.lent.now l.lent k.new.out b.result a.from a.to l.i 64 k.result (omega arith) (omega arith) b.ensures l.invariant.3 k.ensures)

pub shape_of-lent : goal.shape_of-lent
shape_of-lent c = c.loop-i.invariant.2

pub returns : goal.returns
returns c = (omega arith, c.loop-i.invariant.3)
