use Rattle.std.specs.Prelude.{◌-◌}
use Rattle.narrowing.proofs.MptLaws.{Walked}
use Rattle.narrowing.proofs.mpt.entries.Given as goal

abbrev pub invariant-loop : goal.invariant-loop
invariant-loop l = Walked l.o l.b l.at l.count l.end (l.count - l.counter) l.kept l.size
