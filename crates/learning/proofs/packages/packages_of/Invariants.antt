use Prim.Native.Nat.{◌-◌}
use Rattle.learning.proofs.PackageLaws.{Sofar}
use Rattle.learning.proofs.packages.packages_of.Given as goal

abbrev pub invariant-loop : goal.invariant-loop
invariant-loop l = Sofar l.b l.all (l.all - l.counter) l.from l.services.count l.services.packages
