use Rattle.std.specs.Prelude.{◌-◌}
use Rattle.narrowing.proofs.CountLaws.{Counting}
use Rattle.narrowing.proofs.counting.count_entries.Given as goal

abbrev pub invariant-loop : goal.invariant-loop
invariant-loop l = Counting l.b l.at l.count l.o l.initial.t l.t l.from (l.count - l.counter)
