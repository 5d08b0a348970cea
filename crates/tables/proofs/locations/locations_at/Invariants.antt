use Rattle.std.specs.Prelude.{◌-◌}
use Rattle.tables.proofs.LocationLaws.{Sofar}
use Rattle.tables.proofs.locations.locations_at.Given as goal

abbrev pub invariant-loop : goal.invariant-loop
invariant-loop l = Sofar l.s l.at l.count l.end (l.count - l.counter) l.carrier
