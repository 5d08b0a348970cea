use Rattle.programs.proofs.AskedLaws.{service_named, service_every}
use Prim.Native.Nat.{◌/◌, ◌%◌}
use native.Mathlib.Omega.{arith}
use Rattle.programs.proofs.asked.service_of.Goals as goal

pub returns-then-flags-eq1 : goal.returns-then-flags-eq1
returns-then-flags-eq1 c = let a = c.args in service_named (a.flags / 8 % 2) a.service c.if-flags-eq1.true

pub returns : goal.returns
returns c = let a = c.args in service_every (a.flags / 8 % 2) a.service (omega arith) c.if-flags-eq1.false
