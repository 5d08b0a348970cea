use native.Mathlib.Omega.{arith}
use Rattle.fragments.proofs.GrowLaws.{none_at}
use Rattle.fragments.proofs.Held.drop_found.Goals as goal

pub returns-in-None : goal.returns-in-None
returns-in-None c =
    let a = c.args in
    rw c.in-None.is (none_at a.self.count a.self.count a.self.leading a.fragment_heads.now a.bodies.now (omega arith))
