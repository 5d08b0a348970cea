use Rattle.learning.proofs.MapLaws.{two_more}
use mathlib.Core.List.{append-nil}
use mathlib.Core.Path.{refl}
use Prim.Native.Nat.{◌+◌, ◌*◌}
use native.Mathlib.Omega.{arith}
use Rattle.learning.proofs.lists.Assets.take.Goals as goal

pub returns-in_default-clause-listed : goal.returns-in_default-clause-listed
returns-in_default-clause-listed c = rw (c.in_default.is, append-nil) refl

pub returns-clause-listed : goal.returns-clause-listed
returns-clause-listed c =
    let a = c.args in
    let n = a.self.now.count in
    rw (c.in-Some.is, c.kind_number.ensures) (two_more a.self.now.numbers (2 * n) (2 * (n + 1)) _ _ (omega arith) (omega arith))
