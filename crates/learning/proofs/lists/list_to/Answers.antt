use Rattle.meaning.specs.Learn.{over}
use Prim.Native.Nat.{◌+◌, ◌-◌}
use lib.ListN.{length, take}
use lib.Seq.{length-take-le, drop-drop}
use mathlib.Core.Path.{◌≡◌}
use native.Mathlib.Omega.{arith}
use Rattle.learning.proofs.lists.list_to.Goals as goal

pub returns : goal.returns
unfolding over
returns c =
    let a = c.args in
    let l : a.base + a.n - a.base ≡ a.n = omega arith in
    let m : length (take a.n a.fresh.now) ≡ a.n = length-take-le a.n a.fresh.now (omega arith) in
    rw (l, c.copy_from_slice.ensures.after, m, drop-drop a.n a.base a.map_room.now)
