use Rattle.std.specs.Prelude.{◌-◌}
use Rattle.narrowing.proofs.MptLaws.{Writing}
use Rattle.narrowing.proofs.mpt.entries_to.Given as goal

abbrev pub invariant-loop : goal.invariant-loop
invariant-loop l = Writing l.o l.b l.at l.count l.initial.out l.to l.out l.from (l.count - l.counter) l.put l.row
