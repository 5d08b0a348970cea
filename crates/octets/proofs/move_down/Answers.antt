use Rattle.meaning.proofs.Writes.{move_none, move_on}
use native.Mathlib.Omega.{arith}
use mathlib.Core.Path.{◌≡◌}
use Prim.Native.Nat.{◌+◌, ◌-◌}
use Rattle.octets.proofs.move_down.Goals as goal

pub returns-then-from-to : goal.returns-then-from-to
returns-then-from-to c = let a = c.args in move_none a.lent.now a.from a.n a.to (omega arith) (omega arith)

pub returns : goal.returns
returns c =
    let a = c.args in
    let b = c.blocks_down-k in
    let m = c.bytes_down in
    let e : b.result + (a.n - b.result) ≡ a.n = omega arith in
    rw e at (move_on a.lent.now b.new.lent m.new.lent a.from a.to b.result (a.n - b.result) m.result (omega arith) b.ensures.1 m.ensures)
